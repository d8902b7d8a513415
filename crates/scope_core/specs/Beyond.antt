-- Rows that are counted more often than among others.
use Rattle.std.specs.Prelude.{ℕ, ◌-◌, cond, nat_lt, List, [], ◌∷◌}
use Rattle.std.specs.List.{flat_map}
use Rattle.scope_core.specs.declared.counted.Counted.{Counted}
use Rattle.scope_core.specs.Table.{is_row, tally}

-- how much more often a row is counted than among the others
abbrev pub times_beyond : List Counted → Counted → ℕ
times_beyond others c = c.count - tally (is_row c.row.group c.row.pid) others

-- the rows, each as often as times says, if at all
abbrev pub picked : (Counted → ℕ) → List Counted → List Counted
picked times rows =
    flat_map (λ c. cond (nat_lt 0 (times c)) (record { row = c.row; count = times c } ∷ []) []) rows
