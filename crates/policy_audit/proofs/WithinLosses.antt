-- Which rows an entry and its losses may change: no others change.
use Rattle.policy_audit.proofs
use proofs.Words.{ap, arith, Bool, concerns, cond, Entry, Event, false, History, is_accepted}
use proofs.Words.{is_local, is_replaced, IsPlayed, just, List, listed, lose, may_change_with, None}
use proofs.Words.{not, Option, option_map_or, or_parts, past, Pid, present_link, refl, Some, sym}
use proofs.Words.{true, Verdict, with_entry, ℕ, ◌&&◌, ◌==◌, ◌||◌, ◌∙◌, ◌∷◌, ◌≡◌}
use proofs.Accepted.{lie}
use proofs.Walked.{but}
use proofs.LostWords.{is_one, left_link, lost_present}
use proofs.Losses.{lost_rows_gone}
use proofs.Within.{rows_within}

-- the link old is there no longer
abbrev replaced : Option ℕ → Option ℕ → Bool
replaced old new = option_map_or (λ l. not (option_map_or (λ k. k == l) new false)) old false

-- what is listed before an entry and its losses, and after it, is the same: over plain values
module _ (es : List Entry) (ls : List ℕ) (about local_now local_was : Bool) (now was : ℕ) where
  abbrev left : Option ℕ → ℕ
  left new = cond (not local_now && option_map_or (λ k. is_one k ls) new false) 0 now

  by_links : (old new : Option ℕ) → (about || replaced old (left_link es ls new)) ≡ false
      → ((about || replaced old new) ≡ false → now ≡ was) → (about ≡ false → local_now ≡ local_was)
      → (old ≡ None → local_was ≡ false → was ≡ 0) → left new ≡ was
  by_links None None quiet alone local unlinked = grind (arith, quiet, alone)
  by_links None (Some k) quiet alone local unlinked = by_place (is_one k ls) local_now refl
    where
      quiet_is : about ≡ false
      quiet_is = (or_parts about false quiet).0

      by_place : (b a : Bool) → local_now ≡ a → cond (not a && b) 0 now ≡ was
      by_place true true q = alone quiet
      by_place false true q = alone quiet
      by_place false false q = alone quiet
      by_place true false q = sym (unlinked refl (sym (local quiet_is) ∙ q))
  by_links (Some l) None quiet alone local unlinked = lie ((or_parts about true quiet).1)
  by_links (Some l) (Some k) quiet alone local unlinked = by_place (is_one k ls) quiet
    where
      by_place : (b : Bool) → (about || replaced (Some l) (cond b None (Some k))) ≡ false
          → cond (not local_now && b) 0 now ≡ was
      by_place true q = lie ((or_parts about true q).1)
      by_place false q = grind (arith, alone q)

module _ (h : History) (e : Entry) (s g : List ℕ) (p : Pid) where
  abbrev es : List Entry
  es = h.entries

  -- the entry concerns these rows
  abbrev about : Bool
  about = is_accepted e.verdict && concerns h.opening es s g p e.event

  -- one that doesn't leaves who is local
  local_by : (ev : Event) (v : Verdict) → (is_accepted v && concerns h.opening es s g p ev) ≡ false
      → is_local (just h (but e ev v)) p ≡ is_local h p
  local_by ev v q = grind arith

  -- where there was no link of p's node, none of p's rows was listed
  unlinked : present_link p.node es ≡ None → is_local h p ≡ false → listed h s g p ≡ 0
  unlinked none far = grind (arith, none, far)

  module _ (legal : IsPlayed (just h e)) (ls : List ℕ) where
    by_losses : (about || is_replaced p.node es (lose ls (e ∷ es))) ≡ false
        → listed (past h.opening (lose ls (e ∷ es))) s g p ≡ listed h s g p
    by_losses quiet =
        lost_rows_gone h.opening (e ∷ es) ls s g p
        ∙ by_links (e ∷ es) ls about (is_local (just h e) p) (is_local h p)
        (listed (just h e) s g p) (listed h s g p)
        (present_link p.node es) (present_link p.node (e ∷ es))
        (ap (λ x. about || replaced (present_link p.node es) x)
        (sym (lost_present (e ∷ es) ls p.node)) ∙ quiet)
        (rows_within h e legal.0 legal.1 s g p) (local_by e.event e.verdict) unlinked

-- the rows that an entry and its losses may not change stay
pub rows_within_losses : (h : History) (e : Entry) → IsPlayed (just h e) → (s g : List ℕ) (p : Pid)
    → may_change_with h e s g p ≡ false → listed (with_entry h e) s g p ≡ listed h s g p
rows_within_losses h e legal s g p = grind (arith, by_losses, rows_within)
