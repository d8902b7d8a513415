use Rattle.node_core.proofs
use proofs.Words.{arith, HasParted, refl}
use proofs.Zipped.{zipped}
use proofs.changes.leave_all.Goals as goal

pub loop-running-preserved : goal.loop-running-preserved
loop-running-preserved c = zipped (HasParted c.args.leaving) c.args.scopes.now.items
    c.loop-running.running-items c.loop-running.running-index c.running-item.result _
    c.loop-running.invariant (omega arith)
    (record { scope = refl; rows = c.leave.ensures; heard = refl; told = refl })
