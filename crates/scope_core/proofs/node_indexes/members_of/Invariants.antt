use Rattle.scope_core.proofs
use proofs.Words.{take, ◌≡◌}
use proofs.Making.{pairs}
use proofs.node_indexes.members_of.Given as goal

-- those of the rows so far
abbrev pub invariant-loop-counted : goal.invariant-loop-counted
invariant-loop-counted l = l.members.items ≡ pairs (take l.counted-index l.rows)
