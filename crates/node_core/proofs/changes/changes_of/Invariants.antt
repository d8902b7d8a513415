use Rattle.node_core.proofs.Words.{ArePartings, count_but, take}
use Rattle.node_core.proofs.changes.changes_of.Given as goal

-- the changes of the scopes so far
abbrev pub invariant-loop-running : goal.invariant-loop-running
invariant-loop-running l = ArePartings (count_but l.fn.leaving) (take l.running-index l.scopes)
    l.changes.items
