use Rattle.node_core.proofs.ReadLinks.{links_are}
use Rattle.node_core.proofs.node.NodeCore.links.Goals as goal

pub returns : goal.returns
returns c = rw (← c.self.view_is)
    (rw (← links_are c.self.invariant.follows) (rw c.deref.ensures.value at c.awaiting_of.ensures))
