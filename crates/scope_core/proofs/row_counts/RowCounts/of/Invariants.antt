use Rattle.scope_core.proofs
use proofs.Words.{AllByRecursion, entries_in, rows_at, ◌++◌, ◌≡◌}
use proofs.row_counts.RowCounts.of.Given as goal

-- with those to come, which are the node's, all are there
abbrev pub invariant-loop-row : goal.invariant-loop-row
invariant-loop-row l =
    let rest = l.row-iterator.rest.items in
    AllByRecursion (λ c. c.row.pid.node ≡ l.node) rest
    × (rows_at l.node l.counts.entries ++ entries_in rest ≡ entries_in l.fn.rows.items)
