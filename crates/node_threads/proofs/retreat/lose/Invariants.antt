use Rattle.std.proofs.Common.{◌-◌, ◌≡◌}
use Rattle.node_threads.proofs.retreat.lose.Given as goal

-- want of memory has left the pass
abbrev pub invariant-loop-step : goal.invariant-loop-step
invariant-loop-step g l = l.pass ≡ l.fn.pass

abbrev pub decreases-loop-step : goal.decreases-loop-step
decreases-loop-step g l = 64 - l.retreat
