use Rattle.node_core.proofs
use proofs.Words.{dialled_peer, KeptLink, same, sym, ◌∙◌}
use proofs.LinkTests.{any_some}
use proofs.beside.BesideOtherLinks.is_dialled.Goals as goal

pub returns : goal.returns
returns c =
    let links = c.self.inside.links.now in
    rw (← c.self.view_is) (c.is_dialling.ensures
    ∙ sym (any_some (λ n. same n c.args.peer.now) (λ (x : KeptLink). dialled_peer x.state) links))
