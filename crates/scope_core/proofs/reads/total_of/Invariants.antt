use Rattle.scope_core.proofs
use proofs.Words.{drop, total, ◌+◌, ◌≡◌}
use proofs.reads.total_of.Given as goal

-- the total so far, and that of the rows to come
abbrev pub invariant-loop-counted : goal.invariant-loop-counted
invariant-loop-counted l =
    l.total + total (λ c. c.count) (drop l.counted-index l.rows) ≡ total (λ c. c.count) l.rows
