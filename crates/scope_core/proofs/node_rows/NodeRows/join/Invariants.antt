use Rattle.scope_core.proofs
use proofs.Words.{bare_rows, Bool, Row, take, tally, ◌+◌, ◌≡◌}
use proofs.node_rows.NodeRows.join.Given as goal

-- those of the list so far are counted beside the others, and the rows that stand there stay
abbrev pub invariant-loop-counted : goal.invariant-loop-counted
invariant-loop-counted l = ((test : Row → Bool) → tally test l.self-inside.rows.rows
    ≡ tally test l.initial.self-inside.rows.rows + tally test (take l.counted-index l.others))
    × (bare_rows l.self-inside.rows.rows ≡ bare_rows l.initial.self-inside.rows.rows)
    × (l.self-inside.rows.node ≡ l.initial.self-inside.rows.node)
    × (l.self-inside.total ≡ l.initial.self-inside.total)
