use Rattle.node_core.proofs
use proofs.Words.{audit_of, Event, follows_removed, refl, Rule}
use Rattle.group_monitors.proofs.FromPolicy.{follows_checked, follows_refused}
use proofs.Answering.{accepts, refuses}
use proofs.Calm.{entered}
use proofs.Entered.{audit_next}
use proofs.kept.Kept.demonitor.Goals as goal

pub returns-in-Ok : goal.returns-in-Ok
returns-in-Ok g c =
    let h = g.call.past in
    let t = c.requires.0.keeps.follows in
    let holds = (follows_checked h c.args.self.now.monitors t.monitors g.call.seat c.args.number
    (rw c.requires.1 at c.in-Ok.ensures.ok.0)).1 in
    accepts c.requires.0 _ _ refl _ _ _ c.done.ensures refl (rw (c.in-Ok.ensures.ok.1, c.requires.1)
    (entered t g.call.seat (Event.Demonitor c.args.number) refl c.requires.0.space holds refl
    (λ its. (
      t.admission,
      t.processes,
      follows_removed (audit_of h) _ _ (audit_next h) t.monitors refl c.args.number refl,
    ))))

pub returns-in-Err : goal.returns-in-Err
returns-in-Err g c = rw c.in-Err.ensures.same (refuses c.requires.0 _ Rule.NoMonitor
    (follows_refused g.call.past c.args.self.now.monitors c.requires.0.keeps.follows.monitors
    g.call.seat c.args.number (rw c.requires.1 at c.in-Err.ensures.refused)).1 refl)
