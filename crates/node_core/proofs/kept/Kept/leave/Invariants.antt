use Rattle.node_core.proofs.kept.Kept.leave.Given as goal

abbrev pub ghost-are_local : goal.ghost-are_local
ghost-are_local g a = g.call.past
