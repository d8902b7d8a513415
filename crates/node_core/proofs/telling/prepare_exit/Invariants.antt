use Rattle.node_core.proofs.Words.{AreExits, take}
use Rattle.node_core.proofs.telling.prepare_exit.Given as goal

-- the scopes so far
abbrev pub invariant-loop-running : goal.invariant-loop-running
invariant-loop-running l =
    AreExits l.pid (take l.running-index l.scopes) l.initial.links.items l.links.items
    l.changes.items
