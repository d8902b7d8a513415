use Rattle.scope_core.proofs
use proofs.Words.{AllByRecursion, List, pid_of, replicate, row_in, ℕ, ◌++◌, ◌≡◌}
use proofs.group_members.behind.Given as goal

-- so many rows are the process's so far
abbrev pub invariant-loop : goal.invariant-loop
invariant-loop l = (node : List ℕ) → AllByRecursion (λ r. r.pid.node ≡ node) l.rows
    → (l.rows ≡ replicate l.counter (row_in l.group (pid_of node l.key)) ++ l.rest)
    × AllByRecursion (λ r. r.pid.node ≡ node) l.rest
