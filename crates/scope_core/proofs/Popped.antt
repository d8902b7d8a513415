-- A process leaves one of its groups: its row is taken out of the map.
use Rattle.scope_core.proofs
use proofs.Words
use Words.{ap, arith, cond, counted_in, Joins, lookup, None, Pid, Row, row_in, same_row, Some}
use Words.{unwrap_or, with_process, List, [], ℕ, ◌∙◌, ◌∷◌, ◌≡◌}
use proofs.HashedRows.{count_is, Entries, Once, taken_tally}
use Rattle.scope_core.specs.declared.counted.Membership.{Membership}

-- what is answered of the row is what the rows are counted less
pub popped_gone : (p : Pid) (g : List ℕ) (m : Membership) (es fs : Entries) → Once es → Once fs
    → ((r : Row) → lookup (same_row r) fs
    ≡ cond (same_row (row_in g p) r) None (lookup (same_row r) es))
    → lookup (same_row (row_in g p)) es ≡ Some m.count → m.group ≡ g
    → Joins (with_process p m ∷ []) (counted_in fs) (counted_in es)
popped_gone p g m es fs once still written value group = λ test.
    let less = taken_tally (row_in g p) es fs once still written test in
    let count = count_is (row_in g p) es once ∙ ap (λ o. unwrap_or o 0) value in
    let is = ap (λ h. test (row_in h p)) group in
    grind arith
