use Rattle.node_core.proofs.kept.Kept.dial.Given as goal

abbrev pub ghost-dial_refusal : goal.ghost-dial_refusal
ghost-dial_refusal g a = g.call.past
