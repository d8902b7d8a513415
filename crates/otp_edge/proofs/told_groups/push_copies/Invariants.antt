use Rattle.otp_edge.proofs.Words.{take, ◌++◌, ◌≡◌}
use Rattle.otp_edge.proofs.told_groups.push_copies.Given as goal

abbrev pub invariant-loop-row : goal.invariant-loop-row
invariant-loop-row l = l.out.items ≡ l.fn.out.items ++ take l.row-index l.rows
