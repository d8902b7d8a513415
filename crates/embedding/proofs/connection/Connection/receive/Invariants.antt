use Rattle.std.proofs.Common.{length}
use Rattle.embedding.proofs.connection.Connection.receive.Given as goal

-- each turn uses at least one byte of what is left
abbrev pub decreases-loop-left : goal.decreases-loop-left
decreases-loop-left l = length l.left
