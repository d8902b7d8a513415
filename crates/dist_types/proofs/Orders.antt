-- The orders are total and exact, and the tests of sameness decide equality.
use Rattle.dist_types.specs
use Rattle.std.specs.Prelude.{List, nat_eq, ℕ, ◌≡◌}
use Rattle.std.proofs.Common.{ap, arith, refl, ◌∙◌}
use Rattle.std.specs.declared.cmp.Ordering.TheVariants.{Equal}
use Rattle.std.specs.Ordering.{nat_cmp, ordering_then}
use Rattle.std.specs.Cmp.{IsTotalOrder}
use Rattle.std.specs.Cmp.Lexicographic.{slice_cmp}
use Rattle.std.specs.Bool.{Decides}
use Rattle.std.proofs.lemmas.Cmp.{nat_cmp_total, nat_list_cmp_total, on_total, then_total}
use Rattle.std.proofs.lemmas.Cmp.{tied_itself}
use Rattle.std.proofs.lemmas.Bool.{and_parts}
use Rattle.std.proofs.lemmas.Map.Lookups.{exact_bytes, exact_pairs, exact_unsigned}
use Rattle.std.proofs.lemmas.Slice.Eq.{slice_eq-Decides}
use Rattle.std.proofs.lemmas.Bool.Decides.{Decides-eqb}
use specs.declared.pid.Pid.{Pid}
use specs.declared.row.Row.{Row}
use specs.Order.{pid_cmp, row_cmp, text_cmp}
use specs.Listing.{same, same_pid, same_row}

pub texts_total : IsTotalOrder text_cmp
texts_total = nat_list_cmp_total

pub pids_total : IsTotalOrder pid_cmp
pids_total = then_total (on_total (λ p. p.node) nat_list_cmp_total)
    (then_total (on_total (λ p. p.creation) nat_cmp_total) (on_total (λ p. p.number) nat_cmp_total))

pub rows_total : IsTotalOrder row_cmp
rows_total = then_total (on_total (λ r. r.group) nat_list_cmp_total)
    (on_total (λ r. r.pid) pids_total)

-- what compares equal is equal
pub exact_pids : (p q : Pid) → pid_cmp p q ≡ Equal → p ≡ q
exact_pids p q h =
    ap (λ (t : List ℕ × (ℕ × ℕ)). record { node = t.0; creation = t.1.0; number = t.1.1 })
    (exact_pairs (slice_cmp nat_cmp) (λ (x y : ℕ × ℕ). ordering_then (nat_cmp x.0 y.0)
    (nat_cmp x.1 y.1)) exact_bytes (exact_pairs nat_cmp nat_cmp exact_unsigned exact_unsigned)
    (p.node, (p.creation, p.number)) (q.node, (q.creation, q.number)) h)

pub exact_rows : (x y : Row) → row_cmp x y ≡ Equal → x ≡ y
exact_rows x y h = ap (λ (t : List ℕ × Pid). record { group = t.0; pid = t.1 })
    (exact_pairs (slice_cmp nat_cmp) pid_cmp exact_bytes exact_pids (x.group, x.pid)
    (y.group, y.pid) h)

pub same_decides : (a b : List ℕ) → Decides (same a b) (a ≡ b)
same_decides a b = slice_eq-Decides {E = nat_eq} Decides-eqb a b (same a b) refl

pub same_sym : (a b : List ℕ) → same a b ≡ same b a
same_sym a b = grind (arith, same_decides a b, same_decides b a)

pub same_pid_decides : (p q : Pid) → Decides (same_pid p q) (p ≡ q)
same_pid_decides p q = (
  (λ h. let t = and_parts _ _ h in let u = and_parts _ _ t.1 in
      λ i.
      record {
        node = (same_decides p.node q.node).0 t.0 i;
        creation = (Decides-eqb p.creation q.creation).0 u.0 i;
        number = (Decides-eqb p.number q.number).0 u.1 i;
      }),
  (λ h.
      grind (
        arith,
        same_decides p.node q.node,
        Decides-eqb p.creation q.creation,
        Decides-eqb p.number q.number,
      )),
)

pub same_row_decides : (r s : Row) → Decides (same_row r s) (r ≡ s)
same_row_decides r s = (
  (λ h. let t = and_parts _ _ h in
      λ i.
      record {
        group = (same_decides r.group s.group).0 t.0 i;
        pid = (same_pid_decides r.pid s.pid).0 t.1 i;
      }),
  (λ h. grind (arith, same_decides r.group s.group, same_pid_decides r.pid s.pid)),
)

-- rows of one group compare as their processes
pub in_one_group : (x y : Row) → x.group ≡ y.group → row_cmp x y ≡ pid_cmp x.pid y.pid
in_one_group x y e = ap (λ o. ordering_then o (pid_cmp x.pid y.pid)) (ap (λ g. text_cmp g y.group) e
    ∙ tied_itself nat_list_cmp_total y.group)
