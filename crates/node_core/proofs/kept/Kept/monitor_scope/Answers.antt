use Rattle.node_core.proofs
use proofs.Words.{Accepted, ap, audit_of, Event, follows_free, follows_scope, IsFree, just}
use proofs.Words.{next_number, None, refl, Reply, Rule, subst, sym, [], ◌++◌, ◌∙◌, ◌∷◌}
use Rattle.group_monitors.specs.Follows.{FollowsPolicy}
use proofs.Answering.{accepts, refuses}
use proofs.Calm.{entered}
use proofs.Entered.{audit_next, made}
use proofs.MessagePlaces.{runs_here, scope_here, stopped_here}
use proofs.Scopes.{contents_are}
use proofs.Searched.{scopes_ascend}
use proofs.kept.Kept.monitor_scope.Goals as goal

pub returns-in_default : goal.returns-in_default
returns-in_default g c =
    refuses c.requires.called _ Rule.NoScope
    (rw (stopped_here c.requires.called.keeps.follows c.args.scope.now
    (sym (rw c.deref.ensures.value at c.in_default.ensures)))) refl

pub add_scope-requires : goal.add_scope-requires
add_scope-requires g c =
    subst (λ n. IsFree n c.args.self.now.monitors)
    (sym (c.requires.number_is ∙ audit_next g.call.past))
    (follows_free (audit_of g.call.past) c.args.self.now.monitors
    c.requires.called.keeps.follows.monitors)

pub returns : goal.returns
returns g c =
    let h = g.call.past in
    let t = c.requires.called.keeps.follows in
    let scope = c.args.scope.now in
    let placed = sym (rw c.deref.ensures.value at c.in-Some.ensures) in
    let there = scope_here t scope placed c.index.ensures in
    let all = contents_are h scope c.index.result.now there.named there.running
    c.in_ok-groups.groups c.in_ok-groups.ensures.groups c.in_ok-groups.ensures.pids in
    let entry = made h g.call.seat (Event.MonitorScope scope)
    (Accepted (Reply.ScopeRef (next_number h) c.in_ok-groups.groups)) [] in
    accepts c.requires.called _ _ refl _ _ _ c.in_ok-answered.ensures refl
    (rw (
      c.in_ok-add_scope.ensures.ok,
      c.in_ok-scope.ensures,
      c.requires.seat_is,
      c.requires.number_is,
    )
    (entered t g.call.seat (Event.MonitorScope scope) refl c.requires.called.space
    (rw (runs_here t scope c.in-Some.place placed))
    (ap (Reply.ScopeRef (next_number h)) (sym all))
    (λ its. (
      t.admission,
      t.processes,
      subst (λ n. FollowsPolicy (just (audit_of h) entry)
          (c.args.self.now.monitors
          ++ (n, record { seat = g.call.seat; scope = scope; group = None; place = n }) ∷ []))
          (sym (audit_next h))
          (follows_scope (audit_of h) entry _ (audit_next h) t.monitors refl scope refl),
    ))))

pub place_of-requires : goal.place_of-requires
place_of-requires g c = rw c.deref.ensures.value (scopes_ascend c.requires.called.keeps.follows)
