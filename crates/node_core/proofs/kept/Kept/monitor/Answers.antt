use Rattle.node_core.proofs
use proofs.Words.{Accepted, ap, audit_of, Event, follows_free, follows_group, IsFree, just}
use proofs.Words.{next_number, refl, Reply, Rule, Some, subst, sym, [], ◌++◌, ◌∙◌, ◌∷◌}
use Rattle.group_monitors.specs.Follows.{FollowsPolicy}
use proofs.Answering.{accepts, refuses}
use proofs.Calm.{entered}
use proofs.Entered.{audit_next, made}
use proofs.MessagePlaces.{runs_here, scope_here, stopped_here}
use proofs.Scopes.{members_are}
use proofs.Searched.{scopes_ascend}
use proofs.kept.Kept.monitor.Goals as goal

pub returns-in_default : goal.returns-in_default
returns-in_default g c =
    refuses c.requires.called _ Rule.NoScope
    (rw (stopped_here c.requires.called.keeps.follows c.args.scope.now
    (sym (rw c.deref.ensures.value at c.in_default.ensures)))) refl

pub add_group-requires : goal.add_group-requires
add_group-requires g c =
    subst (λ n. IsFree n c.args.self.now.monitors)
    (sym (c.requires.number_is ∙ audit_next g.call.past))
    (follows_free (audit_of g.call.past) c.args.self.now.monitors
    c.requires.called.keeps.follows.monitors)

pub returns : goal.returns
returns g c =
    let h = g.call.past in
    let t = c.requires.called.keeps.follows in
    let scope = c.args.scope.now in
    let group = c.args.group.now in
    let placed = sym (rw c.deref.ensures.value at c.in-Some.ensures) in
    let there = scope_here t scope placed c.index.ensures in
    let all = c.in_ok-pids.ensures ∙ members_are h scope c.index.result.now there.named
    there.running group _ c.in_ok-members.ensures in
    let entry = made h g.call.seat (Event.Monitor scope group)
    (Accepted (Reply.Ref (next_number h) c.in_ok-pids.pids)) [] in
    accepts c.requires.called _ _ refl _ _ _ c.in_ok-answered.ensures refl
    (rw (
      c.in_ok-add_group.ensures.ok,
      c.in_ok-scope.ensures,
      c.in_ok-group.ensures,
      c.requires.seat_is,
      c.requires.number_is,
    )
    (entered t g.call.seat (Event.Monitor scope group) refl c.requires.called.space
    (rw (runs_here t scope c.in-Some.place placed)) (ap (Reply.Ref (next_number h)) (sym all))
    (λ its. (
      t.admission,
      t.processes,
      subst (λ n. FollowsPolicy (just (audit_of h) entry)
          (c.args.self.now.monitors
          ++ (n, record { seat = g.call.seat; scope = scope; group = Some group; place = n }) ∷ []))
          (sym (audit_next h))
          (follows_group (audit_of h) entry _ (audit_next h) t.monitors refl scope group refl),
    ))))

pub place_of-requires : goal.place_of-requires
place_of-requires g c = rw c.deref.ensures.value (scopes_ascend c.requires.called.keeps.follows)
