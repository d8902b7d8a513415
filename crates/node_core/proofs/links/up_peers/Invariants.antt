use Rattle.node_core.proofs.Words.{flat_map, option_to_list, take, up_peer, ◌≡◌}
use Rattle.node_core.proofs.links.up_peers.Given as goal

-- the names so far
abbrev pub invariant-loop-link : goal.invariant-loop-link
invariant-loop-link l =
    l.peers.items ≡ flat_map (λ x. option_to_list (up_peer x.state)) (take l.link-index l.links)
