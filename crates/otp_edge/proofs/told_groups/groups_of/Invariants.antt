use Rattle.otp_edge.proofs
use proofs.Words.{length}
use Rattle.otp_edge.specs.Said.{GoesOn}
use proofs.GatherLemmas.{IsGathered}
use Rattle.otp_edge.proofs.told_groups.groups_of.Given as goal

abbrev pub invariant-loop-first : goal.invariant-loop-first
invariant-loop-first l = record {
  gathered : IsGathered l.life.atoms.items l.rows l.rest l.told.items;
  life : GoesOn l.fn.life l.life;
}

abbrev pub decreases-loop-first : goal.decreases-loop-first
decreases-loop-first l = length l.rest
