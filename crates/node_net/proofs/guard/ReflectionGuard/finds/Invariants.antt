use Rattle.std.proofs.Common.{length}
use Rattle.node_net.proofs.guard.ReflectionGuard.finds.Given as goal

abbrev pub decreases-loop-left : goal.decreases-loop-left
decreases-loop-left g l = length l.left
