use Rattle.node_core.proofs.Words.{take, ◌≡◌}
use Rattle.node_core.specs.Ending.{ends_of}
use Rattle.node_core.proofs.slow.ends_of.Given as goal

-- the ends of the links so far
abbrev pub invariant-loop-link : goal.invariant-loop-link
invariant-loop-link l = l.ends.items ≡ ends_of (take l.link-index l.links)
