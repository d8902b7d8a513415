use Rattle.node_core.proofs.Words.{Message, wide, ◌≡◌}
use Rattle.std.specs.Prelude.{map, take}
use Rattle.node_core.proofs.handshaking.discovers_of.Given as goal

-- the frames so far
abbrev pub invariant-loop-running : goal.invariant-loop-running
invariant-loop-running l = l.frames.items
    ≡ map (λ r. wide (Message.Discover r.scope)) (take l.running-index l.scopes)
