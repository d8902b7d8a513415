use Rattle.std.specs.Prelude.{All, ◌≡◌}
use Rattle.refusals.proofs.tables.rows_of.Given as goal

-- the rows so far are of the peer
abbrev pub invariant-loop-number : goal.invariant-loop-number
invariant-loop-number l = All (λ row. row.pid.node ≡ l.peer) l.rows.items
