use Rattle.scope_core.proofs
use proofs.Found.{Sought}
use proofs.node_indexes.group_of.Given as goal

abbrev pub invariant-loop-group : goal.invariant-loop-group
invariant-loop-group l = Sought l.groups l.key l.group-iterator
