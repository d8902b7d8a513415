use Rattle.scope_core.proofs
use proofs.Words.{replicate, ◌++◌, ◌≡◌}
use proofs.reads.push_copies.Given as goal

-- the copies so far
abbrev pub invariant-loop : goal.invariant-loop
invariant-loop g l = l.items.items ≡ l.fn.items.items ++ replicate l.counter l.item
