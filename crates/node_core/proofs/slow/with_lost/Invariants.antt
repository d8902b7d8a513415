use Rattle.node_core.proofs.Words.{take}
use Rattle.node_core.specs.Ending.{AreWithLost, is_stopped}
use Rattle.node_core.proofs.slow.with_lost.Given as goal

-- the changes of the scopes so far
abbrev pub invariant-loop-running : goal.invariant-loop-running
invariant-loop-running l = AreWithLost l.ends (is_stopped l.fn.stopped) l.own
    (take l.running-index l.scopes) l.changes.items
