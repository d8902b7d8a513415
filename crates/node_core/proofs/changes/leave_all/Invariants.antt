use Rattle.node_core.proofs
use proofs.Words.{HasParted}
use proofs.Zipped.{SoFar}
use proofs.changes.leave_all.Given as goal

-- the rows have left the scopes so far
abbrev pub invariant-loop-running : goal.invariant-loop-running
invariant-loop-running l = SoFar (HasParted l.fn.leaving) l.running-index l.fn.scopes.items
    l.running-items
