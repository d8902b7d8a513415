use Rattle.node_core.proofs
use proofs.Words.{ap, false, is_some, option_map_or, same, up_peer, ◌∙◌}
use proofs.Found.{place_found}
use proofs.LinkTests.{up_is}
use proofs.node.NodeCore.is_peer_up.Goals as goal

pub returns : goal.returns
returns c =
    let t = c.self.invariant.follows in
    rw (← c.self.view_is) (
    c.is_some.ensures ∙ ap is_some (rw c.deref.ensures.value at c.place_of_up.ensures)
    ∙ place_found (λ x. option_map_or (λ n. same n c.args.peer.now) (up_peer x.state) false)
    c.self.inside.kept.links.items
    ∙ up_is _ c.args.peer.now t.sound.played c.self.inside.kept.links.items t.links)
