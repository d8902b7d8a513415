use Rattle.scope_core.proofs
use proofs.Words.{drop, spread, ◌++◌, ◌≡◌}
use proofs.reads.pids_of.Given as goal

-- the processes of the rows so far, and of those to come
abbrev pub invariant-loop-counted : goal.invariant-loop-counted
invariant-loop-counted l =
    l.pids.items ++ spread (λ c. c.row.pid) (λ c. c.count) (drop l.counted-index l.rows)
    ≡ spread (λ c. c.row.pid) (λ c. c.count) l.rows
