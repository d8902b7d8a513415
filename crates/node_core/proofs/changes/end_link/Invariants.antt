use Rattle.node_core.proofs
use proofs.Words.{IsCutOff}
use proofs.Zipped.{SoFar}
use proofs.changes.end_link.Given as goal

-- the link is gone for the scopes so far
abbrev pub invariant-loop-running : goal.invariant-loop-running
invariant-loop-running l =
    SoFar (IsCutOff l.fn.number l.fn.peer) l.running-index l.fn.scopes.items l.running-items
