use Rattle.node_core.proofs
use proofs.Words.{ap, audit_of, Event, follows_other, refl, Reply, Rule, sym, ◌∙◌}
use proofs.Answering.{accepts, refuses}
use proofs.Calm.{entered}
use proofs.Entered.{audit_next}
use proofs.MessagePlaces.{runs_here, scope_here, stopped_here}
use proofs.Scopes.{local_members_are}
use proofs.Searched.{scopes_ascend}
use proofs.kept.Kept.local_members.Goals as goal

pub returns-in_default : goal.returns-in_default
returns-in_default g c =
    refuses c.requires _ Rule.NoScope
    (rw (stopped_here c.requires.keeps.follows c.args.scope.now
    (sym (rw c.deref.ensures.value at c.in_default.ensures)))) refl

pub returns : goal.returns
returns g c =
    let h = g.call.past in
    let t = c.requires.keeps.follows in
    let scope = c.args.scope.now in
    let placed = sym (rw c.deref.ensures.value at c.in-Some.ensures) in
    let there = scope_here t scope placed c.index.ensures in
    let list = c.in_ok-pids.ensures
    ∙ local_members_are h scope c.index.result.now there.named there.running t.sound.played
    c.args.group.now _ c.in_ok-local_members.ensures.value in
    accepts c.requires _ _ refl _ _ _ c.in_ok-with.ensures refl
    (entered t g.call.seat (Event.LocalMembers scope c.args.group.now) refl c.requires.space
    (rw (runs_here t scope c.in-Some.place placed)) (ap Reply.Pids (sym list))
    (λ its. (
      t.admission,
      t.processes,
      follows_other (audit_of h) _ _ (audit_next h) t.monitors refl,
    )))

pub place_of-requires : goal.place_of-requires
place_of-requires g c = rw c.deref.ensures.value (scopes_ascend c.requires.keeps.follows)
