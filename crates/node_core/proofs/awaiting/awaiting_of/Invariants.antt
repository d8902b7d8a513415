use Rattle.node_core.proofs.Words.{frame_awaited, map, take, ◌≡◌}
use Rattle.node_core.proofs.awaiting.awaiting_of.Given as goal

-- the links so far
abbrev pub invariant-loop-link : goal.invariant-loop-link
invariant-loop-link l =
    l.all.items ≡ map (λ x. record { link = x.number; frame = frame_awaited x.state })
    (take l.link-index l.links)
