use Rattle.group_monitors.proofs
use proofs.Words.{ap, is_some, monitor_of, nat_eq, Some, sym, ◌∙◌, ◌≡◌}
use Rattle.std.proofs.lemmas.Map.Steps.{set_value_same}
use proofs.Found.{moved, none_found, other_found, own_found}
use Rattle.group_monitors.proofs.monitors.Monitors.advance_to.Goals as goal

pub returns-in_default-clause-refused : goal.returns-in_default-clause-refused
returns-in_default-clause-refused c =
    rw (← c.self.view_is) (none_found c.args.seat c.args.number c.self.inside.monitors.entries
    (sym c.in_default.ensures.value))

pub returns-then-monitor-seat-clause-refused : goal.returns-then-monitor-seat-clause-refused
returns-then-monitor-seat-clause-refused c =
    rw (← c.self.view_is)
    (other_found c.args.seat c.args.number c.in-Some.monitor.now c.self.inside.monitors.entries
    c.self.invariant (sym c.in-Some.ensures.value) c.if-monitor-seat.true)

pub returns-then-monitor-seat-clause-same : goal.returns-then-monitor-seat-clause-same
returns-then-monitor-seat-clause-same c =
    rw (← c.self.view_is)
    ((c.get_mut.follows.holds _).0 ∙ set_value_same (nat_eq c.args.number)
    c.self.inside.monitors.entries c.in-Some.monitor.now (sym c.in-Some.ensures.value))

pub returns-clause-ok : goal.returns-clause-ok
returns-clause-ok c =
    let found : monitor_of c.self.inside.monitors.entries c.args.seat c.args.number ≡ Some
    c.in-Some.monitor.now =
    own_found c.args.seat c.args.number c.in-Some.monitor.now c.self.inside.monitors.entries
    (sym c.in-Some.ensures.value) c.if-monitor-seat.false in
    rw (← c.self.view_is, c.behind-monitor.ensures) (
      ap is_some found,
      (c.get_mut.follows.holds _).0 ∙ moved c.args.seat c.args.number c.args.place
          c.in-Some.monitor.now c.self.inside.monitors.entries c.self.invariant found,
    )
