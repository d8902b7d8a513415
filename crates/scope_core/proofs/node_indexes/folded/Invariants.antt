use Rattle.scope_core.proofs
use proofs.Words.{length}
use proofs.Copies.{Folds}
use proofs.node_indexes.folded.Given as goal

-- the names so far are in maps, those to come above them
abbrev pub invariant-loop-first : goal.invariant-loop-first
invariant-loop-first l = Folds l.names l.rest l.all.items

abbrev pub decreases-loop-first : goal.decreases-loop-first
decreases-loop-first l = length l.rest
