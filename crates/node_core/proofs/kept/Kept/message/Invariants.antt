use Rattle.node_core.proofs.kept.Kept.message.Given as goal

abbrev pub ghost-follow : goal.ghost-follow
ghost-follow g a = g.call
