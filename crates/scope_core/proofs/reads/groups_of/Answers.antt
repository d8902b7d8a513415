use Rattle.scope_core.proofs
use proofs.Words.{arith, drop_more}
use proofs.Groups.{heads_next}
use proofs.reads.groups_of.Goals as goal

pub loop-counted-preserved : goal.loop-counted-preserved
loop-counted-preserved c = grind (arith, heads_next, drop_more)
