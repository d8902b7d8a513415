use Rattle.node_core.proofs.kept.Kept.follow.Given as goal

abbrev pub ghost-discovered : goal.ghost-discovered
ghost-discovered g a = g.call

abbrev pub ghost-whole : goal.ghost-whole
ghost-whole g a = g.call

abbrev pub ghost-part : goal.ghost-part
ghost-part g a = g.call

abbrev pub ghost-downed : goal.ghost-downed
ghost-downed g a = g.call
