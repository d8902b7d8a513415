use Rattle.node_core.proofs.kept.Kept.join_refusal.Given as goal

abbrev pub ghost-are_local : goal.ghost-are_local
ghost-are_local g a = g.past

abbrev pub ghost-are_alive : goal.ghost-are_alive
ghost-are_alive g a = g.past
