use Rattle.node_core.proofs
use proofs.Words.{◌∙◌}
use proofs.ReadLinks.{link_up}
use proofs.node.NodeCore.is_up.Goals as goal

pub returns : goal.returns
returns c = rw (← c.self.view_is) ((rw c.deref.ensures.value at c.is_up.ensures)
    ∙ link_up c.self.invariant.follows c.args.link)
