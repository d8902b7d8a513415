use Rattle.group_monitors.proofs
use proofs.Words.{sym}
use proofs.Found.{none_found, other_found, own_found}
use goal.{in_default-via-in-Some+else-monitor-seat, in_default-via-in_default}
use Rattle.group_monitors.proofs.monitors.Monitors.find.Goals as goal

pub returns-in-Some-clause-ok : goal.returns-in-Some-clause-ok
returns-in-Some-clause-ok c =
    rw (← c.self.view_is) (own_found c.args.seat c.args.number c.in-Some.monitor.now
    c.self.inside.monitors.entries (sym c.in-Some.ensures.value) c.if-monitor-seat.true)

pub returns-in_default-clause-refused : goal.returns-in_default-clause-refused
returns-in_default-clause-refused c = rw (← c.self.view_is) (elim c.in_default.branch [
  | in_default-via-in-Some+else-monitor-seat w ↦
      other_found c.args.seat c.args.number w.in-Some.monitor.now c.self.inside.monitors.entries
      c.self.invariant (sym w.in-Some.ensures.value) w.if-monitor-seat.false
  | in_default-via-in_default w ↦ none_found c.args.seat c.args.number
      c.self.inside.monitors.entries (sym w.in_default.ensures.value)
])
