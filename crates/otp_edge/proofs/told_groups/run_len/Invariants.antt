use Rattle.otp_edge.proofs.Words.{All, take}
use Rattle.otp_edge.specs.Grouped.{IsInGroup}
use Rattle.otp_edge.proofs.told_groups.run_len.Given as goal

abbrev pub invariant-loop-place : goal.invariant-loop-place
invariant-loop-place l = All (IsInGroup l.group) (take l.place l.rows)
