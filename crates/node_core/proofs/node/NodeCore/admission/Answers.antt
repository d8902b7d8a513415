use Rattle.node_core.proofs.node.NodeCore.admission.Goals as goal

pub returns : goal.returns
returns c = rw (← c.self.view_is) c.self.invariant.follows.admission
