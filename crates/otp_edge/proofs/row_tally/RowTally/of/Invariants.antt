use Rattle.otp_edge.proofs.Words.{Row, take, ◌≡◌}
use Rattle.otp_edge.specs.Tallies.{counted, times}
use Rattle.otp_edge.proofs.row_tally.RowTally.of.Given as goal

abbrev pub invariant-loop-row : goal.invariant-loop-row
invariant-loop-row l = (r : Row) → counted r l.tally ≡ times r (take l.row-index l.rows)
