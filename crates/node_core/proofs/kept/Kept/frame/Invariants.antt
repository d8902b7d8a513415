use Rattle.node_core.proofs.kept.Kept.frame.Given as goal

abbrev pub ghost-message : goal.ghost-message
ghost-message g a = g.call

abbrev pub ghost-last_frame : goal.ghost-last_frame
ghost-last_frame g a = g.call

abbrev pub ghost-early_frame : goal.ghost-early_frame
ghost-early_frame g a = g.call
