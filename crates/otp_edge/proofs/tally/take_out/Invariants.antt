use Rattle.otp_edge.proofs
use proofs.Words.{length, ◌-◌, ◌≤◌}
use proofs.TallyLemmas.{OutSoFar}
use Rattle.otp_edge.proofs.tally.take_out.Given as goal

-- what there is to look at
abbrev pub decreases-loop-place : goal.decreases-loop-place
decreases-loop-place l = length l.rows.items - l.place

abbrev pub invariant-loop-place : goal.invariant-loop-place
invariant-loop-place l = record {
  so : OutSoFar l.place l.fn.rows.items l.rows.items l.fn.gone l.gone;
  within : l.place ≤ length l.rows.items;
}
