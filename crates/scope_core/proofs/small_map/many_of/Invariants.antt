use Rattle.scope_core.proofs
use proofs.Words.{take, ◌≡◌}
use proofs.small_map.many_of.Given as goal

-- the copies so far
abbrev pub invariant-loop-entry : goal.invariant-loop-entry
invariant-loop-entry g l = l.copies.items ≡ take l.entry-index l.few
