use Rattle.std.proofs.Common.{length, List, ℕ, ◌++◌, ◌≡◌}
use Rattle.node_threads.specs.Reading.{ReadsOn}
use Rattle.node_threads.proofs.reading.hand_in_all.Given as goal

-- what is left comes behind what was read
abbrev pub invariant-loop-left : goal.invariant-loop-left
invariant-loop-left g l = (done : List ℕ) × (l.piece ≡ done ++ l.left) × ReadsOn l.work.link
    l.fn.pass l.fn.cutter done l.pass l.cutter

abbrev pub decreases-loop-left : goal.decreases-loop-left
decreases-loop-left g l = length l.left
