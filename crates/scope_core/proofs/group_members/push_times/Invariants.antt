use Rattle.scope_core.proofs
use proofs.Words.{pid_of, replicate, ◌++◌, ◌≡◌}
use proofs.group_members.push_times.Given as goal

-- the copies so far
abbrev pub invariant-loop : goal.invariant-loop
invariant-loop l = l.pids.items ≡ l.fn.pids.items ++ replicate l.counter (pid_of l.node l.key)
