use Rattle.group_monitors.proofs
use proofs.Words.{arith, target}
use proofs.Unchanged.{changing_tell}
use Rattle.group_monitors.proofs.told.told_by.Goals as goal

pub loop-entry-init : goal.loop-entry-init
loop-entry-init c = grind (arith, changing_tell (target c.args.monitor.now) c.args.entries)
