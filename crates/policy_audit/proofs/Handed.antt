-- The entries that are kept stand behind those that were handed out.
use Rattle.policy_audit.specs
use Rattle.std.proofs.Common.{arith, drop, length, List, max, reverse, slice_get, slice_index_or}
use Rattle.std.proofs.Common.{subst, suc, take, ℕ, [], ◌++◌, ◌+◌, ◌-◌, ◌∷◌, ◌≡◌, ◌≤◌}
use Rattle.std.proofs.lemmas.Grind.{common_steps}
use Rattle.std.proofs.lemmas.Bool.Decides.{nat_tests}
use Rattle.std.proofs.lemmas.List.{length-reverse, reverse-append, reverse-reverse}
use Rattle.std.proofs.Math.Seq.{drop-append-add, drop-append_seam, take-append_seam}
use specs.declared.entry.Entry.{Entry}
use specs.Log.{kept_at, later_than}
use specs.Pages.{entries_in, entries_past, IsPageBehind, IsPaged, log_of, page_size}
use Rattle.policy_audit.proofs.InPages.{get_behind}

-- the oldest first: those that were handed out, and then those that are kept
in_order : (kept past : List Entry) → reverse (reverse kept ++ past) ≡ reverse past ++ kept
in_order kept past = grind (arith, reverse-append (reverse kept) past, reverse-reverse kept)

later_kept : (kept past : List Entry) → later_than (length past) (reverse kept ++ past) ≡ kept
later_kept kept past =
    rw (in_order kept past)
    (subst (λ n. drop n (reverse past ++ kept) ≡ kept) (length-reverse past)
    (drop-append_seam (reverse past) kept))

pub later_max : (kept past : List Entry) (n : ℕ)
    → later_than (max n (length past)) (reverse kept ++ past) ≡ drop (n - length past) kept
later_max kept past n =
    rw (in_order kept past)
    (grind (
      arith,
      common_steps,
      drop-append-add (reverse past) kept (n - length past),
      length-reverse past,
    ))

pub at_kept : (limit : ℕ) (past pages : List (List Entry)) (number place : ℕ)
    → number ≡ suc (length (entries_past past) + place)
    → kept_at number (log_of limit past pages) ≡ slice_get (entries_in pages) place
at_kept limit past pages number place is =
    rw (is, in_order (entries_in pages) (entries_past past))
    (grind (
      arith,
      common_steps,
      nat_tests,
      get_behind (reverse (entries_past past)) (entries_in pages) place,
      length-reverse (entries_past past),
    ))

full_page : (page rest : List Entry) → length page ≡ page_size
    → take page_size (page ++ rest) ≡ page
full_page page rest full =
    subst (λ n. take n (page ++ rest) ≡ page) full (take-append_seam page rest)

-- the first page of several
pub oldest : (past : List Entry) (pages : List (List Entry)) → IsPaged pages → 2 ≤ length pages
    → (page : List Entry) → page ≡ slice_index_or pages 0 page
    → IsPageBehind (length past) (reverse (entries_in pages) ++ past) page
oldest past [] paged two page is = absurd (omega (arith, two))
oldest past (first ∷ []) paged two page is = absurd (omega (arith, two))
oldest past (first ∷ next ∷ later) paged two page is = grind (arith, later_kept, full_page)
