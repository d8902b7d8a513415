use Rattle.node_core.proofs.Words.{map, row, take, ◌≡◌}
use Rattle.node_core.proofs.changes.rows_of.Given as goal

-- the rows so far
abbrev pub invariant-loop-pid : goal.invariant-loop-pid
invariant-loop-pid l = l.rows.items ≡ map (row l.group) (take l.pid-index l.pids)
