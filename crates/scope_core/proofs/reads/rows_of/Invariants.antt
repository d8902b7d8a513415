use Rattle.scope_core.proofs
use proofs.Words.{drop, spread, ◌++◌, ◌≡◌}
use proofs.reads.rows_of.Given as goal

-- the copies so far, and those to come
abbrev pub invariant-loop-counted : goal.invariant-loop-counted
invariant-loop-counted l =
    l.copies.items ++ spread (λ c. c.row) (λ c. c.count) (drop l.counted-index l.rows)
    ≡ spread (λ c. c.row) (λ c. c.count) l.rows
