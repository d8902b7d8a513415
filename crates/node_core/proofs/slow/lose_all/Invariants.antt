use Rattle.node_core.proofs.Words.{take}
use Rattle.node_core.specs.Ending.{Loses}
use Rattle.node_core.proofs.slow.lose_all.Given as goal

-- what changes with the ends so far
abbrev pub invariant-loop-end : goal.invariant-loop-end
invariant-loop-end l = Loses l.table (take l.end-index l.ends) l.fn.groups.items l.groups.items
