use Rattle.node_core.proofs
use proofs.Words.{ap, audit_of, Event, follows_other, refl, Rule, sym, ◌∙◌}
use proofs.Answering.{accepts, refuses}
use proofs.Lives.{next_is_new, pids_fit, pids_full, spawn_answer, spawned_follow}
use proofs.Calm.{entered}
use proofs.Entered.{audit_next}
use proofs.kept.Kept.spawn.Goals as goal

pub returns-then-is_full : goal.returns-then-is_full
returns-then-is_full g c =
    refuses c.requires _ Rule.PidsFull
    (rw (pids_full g.call.past c.args.self.now.processes c.requires.keeps.follows.processes
    (sym c.is_full.ensures ∙ c.if-is_full.true))) refl

pub returns : goal.returns
returns g c =
    let h = g.call.past in
    let t = c.requires.keeps.follows in
    let processes = c.args.self.now.processes in
    let fits = pids_fit h processes t.processes (sym c.is_full.ensures ∙ c.if-is_full.false) in
    let is = spawn_answer h g.call.seat c.in_ok-try_clone.field-0 c.creation.result c.spawned.result
    (c.in_ok-try_clone.ensures ∙ ap (λ o. o.name) c.requires.keeps.opening)
    (c.creation.ensures ∙ t.admission.creation) (c.spawned.ensures ∙ t.processes.spawned) in
    accepts c.requires _ _ refl _ _ _ c.in_ok-answered.ensures refl
    (entered t g.call.seat Event.Spawn refl c.requires.space (rw fits) is (λ its. (
      t.admission,
      spawned_follow h processes t.processes g.call.seat _ c.spawn.new.self t.sound.played its
          c.in_ok-spawn.ensures.spawned c.in_ok-spawn.ensures.live
          (c.in_ok-spawn.ensures.count (next_is_new h processes t.processes)),
      follows_other (audit_of h) _ _ (audit_next h) t.monitors refl,
    )))
