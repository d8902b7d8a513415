use Rattle.std.proofs.Common.{arith, nat_le}
use Rattle.std.proofs.lemmas.Grind.{common_steps}
use Rattle.std.proofs.lemmas.List.Folds.{list_all-map}
use Rattle.group_monitors.specs.declared.monitor.Monitor.{Monitor}
use Rattle.group_monitors.proofs.monitors.Monitors.are_behind.Goals as goal

pub loop-monitor-init : goal.loop-monitor-init
loop-monitor-init c =
    rw (← c.self.view_is)
    (grind (
      arith,
      common_steps,
      list_all-map (λ (m : Monitor). nat_le c.args.number m.place) (λ m. m.1)
          c.self.inside.monitors.entries,
    ))
