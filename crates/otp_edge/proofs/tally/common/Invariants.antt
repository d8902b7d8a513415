use Rattle.otp_edge.proofs
use proofs.TallyLemmas.{CommonSoFar}
use Rattle.otp_edge.proofs.tally.common.Given as goal

abbrev pub invariant-loop-row : goal.invariant-loop-row
invariant-loop-row l = CommonSoFar l.row-index l.rows l.others l.kept.items l.asked
