use Rattle.scope_core.proofs
use proofs.Words.{drop, pid_of, spread, ◌++◌, ◌≡◌}
use proofs.group_members.push_few.Given as goal

-- with those of the entries to come, all are there
abbrev pub invariant-loop-key : goal.invariant-loop-key
invariant-loop-key l =
    l.pids.items ++ spread (λ e. pid_of l.node e.0) (λ e. e.1) (drop l.key-index l.members)
    ≡ l.fn.pids.items ++ spread (λ e. pid_of l.node e.0) (λ e. e.1) l.members
