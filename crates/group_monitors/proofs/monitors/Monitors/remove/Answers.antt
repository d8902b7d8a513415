use Rattle.group_monitors.proofs
use proofs.Words.{ap, is_some, monitor_of, Some, ◌∙◌, ◌≡◌}
use proofs.Found.{taken_away}
use Rattle.group_monitors.proofs.monitors.Monitors.remove.Goals as goal

pub returns-clause-ok : goal.returns-clause-ok
returns-clause-ok c =
    let found : monitor_of c.self.inside.monitors.entries c.args.seat c.args.number ≡ Some
    c.in_ok-find.field-0.now = rw c.self.view_is c.in_ok-find.ensures.ok in
    rw (← c.self.view_is)
    (ap is_some found, c.shift_remove.ensures.entries ∙ taken_away _ _ _ _ c.self.invariant found)
