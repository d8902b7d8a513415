use Rattle.node_core.proofs
use proofs.Words.{ap, arith, audit_of, audited, Event, follows_moved, IsSome, length, List, None}
use proofs.Words.{OnErr, OnOk, Option, option_map, refl, Reply, Result, Rule, Some, suc, with_place}
use proofs.Words.{ℕ, ◌∙◌, ◌≡◌}
use Rattle.group_monitors.specs.declared.monitor.Monitor.{Monitor}
use Rattle.group_monitors.specs.Monitors.{monitor_of, updates_behind}
use Rattle.group_monitors.proofs.FromPolicy.{follows_refused, follows_seen, follows_told}
use Rattle.group_monitors.proofs.Reached.{reach_found}
use proofs.Answering.{accepts, refuses}
use proofs.Calm.{entered}
use proofs.Entered.{audit_next}
use proofs.kept.Kept.updates.Goals as goal

-- the place of a monitor that is there is moved
advanced : {E : Type 0} (o : Result (Unit {0}) E) (found : Option Monitor)
    (ms new : List (ℕ × Monitor)) → IsSome found → OnOk o (IsSome found × (new ≡ ms))
    → OnErr o (found ≡ None) → new ≡ ms
advanced o found ms new some ok refused = grind arith

-- what is told is told of a monitor
told_one : {A : Type 0} (f : Monitor → A) (found : Option Monitor) (a : A)
    → option_map f found ≡ Some a → IsSome found
told_one f found a is = grind arith

pub updates-requires-clause-kept : goal.updates-requires-clause-kept
updates-requires-clause-kept g c =
    let reached = reach_found (audit_of g.call.past) c.args.self.now.monitors
    c.requires.0.called.keeps.follows.monitors c.args.audit.now.forgotten
    (rw c.requires.1.0 at c.requires.1.1) c.args.seat c.args.number in
    grind (arith, reached)

pub updates-requires-clause-seen : goal.updates-requires-clause-seen
updates-requires-clause-seen g c =
    rw c.requires.1.0
    (follows_seen g.call.past c.args.self.now.monitors
    c.requires.0.called.keeps.follows.monitors c.args.seat c.args.number)

pub returns-in-Err-NoMonitor : goal.returns-in-Err-NoMonitor
returns-in-Err-NoMonitor g c = refuses c.requires.0.called _ Rule.NoMonitor
    (follows_refused g.call.past c.args.self.now.monitors c.requires.0.called.keeps.follows.monitors
    g.call.seat c.args.number (rw (
      c.in-Err-NoMonitor.field-0-is,
      c.requires.0.seat_is,
    ) at c.in-Err-NoMonitor.ensures.refused)).0 refl

pub returns : goal.returns
returns g c =
    let h = g.call.past in
    let t = c.requires.0.called.keeps.follows in
    let monitors = c.args.self.now.monitors in
    let behind = rw (c.requires.1.0, c.requires.0.seat_is) at c.in-Ok.ensures.ok in
    let told = follows_told h monitors t.monitors g.call.seat c.args.number c.in-Ok.updates
    behind in
    let some = told_one (updates_behind (audited h.entries))
    (monitor_of monitors g.call.seat c.args.number) c.in-Ok.updates behind in
    let place : c.args.place
    ≡ suc (length (audited h.entries)) = (let is = c.requires.0.number_is ∙ audit_next h in
    omega arith) in
    let moved = advanced c.advance_to.result (monitor_of monitors g.call.seat c.args.number)
    (with_place g.call.seat c.args.number c.args.place monitors) c.advance_to.new.self some
    (rw c.requires.0.seat_is at c.advance_to.ensures.ok)
    (rw c.requires.0.seat_is at c.advance_to.ensures.refused) in
    accepts c.requires.0.called _ _ refl _ _ _ c.in_ok-answered.ensures refl (rw (moved, place)
    (entered t g.call.seat (Event.Updates c.args.number) refl c.requires.0.called.space told.0
    (ap Reply.Updates told.1)
    (λ its. (
      t.admission,
      t.processes,
      follows_moved (audit_of h) _ _ (audit_next h) t.monitors refl c.args.number refl,
    ))))
