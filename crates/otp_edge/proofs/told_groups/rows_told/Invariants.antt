use Rattle.otp_edge.proofs.Words.{take, ◌≡◌}
use Rattle.otp_edge.specs.Sayings.{rows_of}
use Rattle.otp_edge.proofs.told_groups.rows_told.Given as goal

abbrev pub invariant-loop-one : goal.invariant-loop-one
invariant-loop-one l = l.rows.items ≡ rows_of (take l.one-index l.told)
