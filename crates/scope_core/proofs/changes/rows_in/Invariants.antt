use Rattle.scope_core.proofs
use proofs.Words.{map, row_in, take, ◌≡◌}
use proofs.changes.rows_in.Given as goal

-- the rows so far
abbrev pub invariant-loop-pid : goal.invariant-loop-pid
invariant-loop-pid l = l.rows.items ≡ map (row_in l.group) (take l.pid-index l.pids)
