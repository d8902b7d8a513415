use Rattle.scope_core.proofs
use proofs.GroupNodes.{absent_times}
use proofs.group_nodes.remove.Goals as goal

pub returns-in_default-clause-gone : goal.returns-in_default-clause-gone
returns-in_default-clause-gone c =
    absent_times c.args.node.now c.args.nodes.now.items c.in_default.field-0
    (rw c.deref.ensures.value at c.in_default.ensures.gap)
