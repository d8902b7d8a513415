use Rattle.node_core.proofs
use proofs.MergedGroups.{HasSorted}
use proofs.Zipped.{SoFar}
use proofs.gathering.gathered.Given as goal

-- the processes of the changes so far are in their order
abbrev pub invariant-loop-change : goal.invariant-loop-change
invariant-loop-change l = SoFar HasSorted l.change-index l.initial.change-items l.change-items
