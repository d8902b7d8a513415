use Rattle.node_core.proofs
use proofs.Words.{arith, IsCutOff}
use proofs.Zipped.{zipped}
use proofs.changes.end_link.Goals as goal

pub loop-running-preserved : goal.loop-running-preserved
loop-running-preserved c =
    zipped (IsCutOff c.args.number c.args.peer.now) c.args.scopes.now.items
    c.loop-running.running-items c.loop-running.running-index c.running-item.result
    c.cut_off.new.running c.loop-running.invariant (omega arith) c.cut_off.ensures
