use Rattle.node_core.proofs.kept.Kept.join.Given as goal

abbrev pub ghost-join_refusal : goal.ghost-join_refusal
ghost-join_refusal g a = g.call.past
