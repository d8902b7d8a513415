use Rattle.scope_core.proofs
use proofs.Words.{arith, drop_more}
use proofs.Copies.{rises_next}
use proofs.node_indexes.processes_rise.Goals as goal

pub loop-counted-preserved : goal.loop-counted-preserved
loop-counted-preserved c = grind (arith, drop_more, rises_next)
