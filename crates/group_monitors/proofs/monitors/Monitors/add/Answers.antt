use Rattle.group_monitors.proofs
use Rattle.std.proofs.Common.{subst, ℕ, [], ◌++◌, ◌∷◌, ◌≡◌}
use Rattle.group_monitors.specs.declared.monitor.Monitor.{Monitor}
use proofs.Words.{insert_entry-new, nat_eq, ◌∙◌}
use proofs.Found.{free_not_found}
use Rattle.group_monitors.proofs.monitors.Monitors.add.Goals as goal

pub returns-clause-ok : goal.returns-clause-ok
returns-clause-ok c =
    let absent = free_not_found c.args.number c.self.inside.monitors.entries
    (rw c.self.view_is c.requires) in
    let inserted = c.in_ok-insert.ensures.entries ∙ insert_entry-new nat_eq c.self.inside.monitors
    c.args.number _ absent in
    let added : ℕ → Monitor =
    λ place. record
    { seat = c.args.seat; scope = c.args.scope; group = c.args.group; place = place } in
    rw (← c.self.view_is)
    (subst
    (λ place. c.insert.new.self.entries ≡ c.self.inside.monitors.entries
    ++ (c.args.number, added place) ∷ [])
    c.behind-place.ensures inserted)
