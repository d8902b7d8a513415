use Rattle.otp_edge.proofs
use proofs.Words.{length, Row, ◌≡◌, ◌≤◌}
use Rattle.otp_edge.specs.Tallies.{counted, times}
use proofs.TallyLemmas.{CutSoFar}
use Rattle.otp_edge.proofs.tally.cut_to.Given as goal

abbrev pub invariant-loop-place : goal.invariant-loop-place
invariant-loop-place l = record {
  so : CutSoFar l.place l.rows l.kept.items l.counts;
  few : length l.kept.items ≤ l.place;
  counted : (r : Row) → counted r l.tally ≡ times r l.kept.items;
}
