use Rattle.scope_core.proofs
use proofs.GroupNodes.{named_already}
use proofs.group_nodes.add.Goals as goal

pub returns-in-Ok-clause-ok : goal.returns-in-Ok-clause-ok
returns-in-Ok-clause-ok c = named_already c.args.node.now c.args.nodes.now.items c.in-Ok.field-0
    (rw c.deref.ensures.value at c.in-Ok.ensures.bound)
    (rw c.deref.ensures.value at c.in-Ok.ensures.found) c.requires
