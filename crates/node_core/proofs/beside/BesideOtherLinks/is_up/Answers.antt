use Rattle.node_core.proofs
use proofs.Words.{ap, false, is_some, KeptLink, option_map_or, same, sym, up_peer, ◌∙◌}
use proofs.Found.{place_found}
use proofs.LinkTests.{any_some}
use proofs.beside.BesideOtherLinks.is_up.Goals as goal

pub returns : goal.returns
returns c =
    let links = c.self.inside.links.now in
    let peer = c.args.peer.now in
    rw (← c.self.view_is) (c.is_some.ensures ∙ ap is_some c.place_of_up.ensures
    ∙ place_found (λ x. option_map_or (λ n. same n peer) (up_peer x.state) false) links
    ∙ sym (any_some (λ n. same n peer) (λ (x : KeptLink). up_peer x.state) links))
