use Rattle.node_core.proofs
use proofs.Zipped.{SoFar}
use proofs.Told.{both, Prepared}
use proofs.links.prepare_frames.Given as goal

-- the frames are prepared for those so far
abbrev pub invariant-loop-place : goal.invariant-loop-place
invariant-loop-place l =
    SoFar (Prepared l.fn.numbers (both l.fn.spelled.whole.items l.fn.spelled.parts.items)) l.place
    l.fn.links.items l.links.items
