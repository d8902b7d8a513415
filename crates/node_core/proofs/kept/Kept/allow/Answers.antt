use Rattle.node_core.proofs
use proofs.Words.{allow_list, arith, audit_of, different, Event, follows_other, le-leb, lt-leb}
use proofs.Words.{refl, Reply, Rule, ◌++◌}
use proofs.Answering.{accepts, refuses}
use proofs.Cookies.{names_counted, names_follow}
use proofs.Calm.{entered}
use proofs.Entered.{audit_next}
use proofs.kept.Kept.allow.Goals as goal

pub returns-in-Ok : goal.returns-in-Ok
returns-in-Ok g c =
    let t = c.requires.keeps.follows in
    let names = c.args.names.now in
    let is = names_counted g.call.past c.args.self.now.admission t.admission names in
    let few = rw (c.in-Ok.ensures.ok, c.as_slice.ensures) at c.in-Ok.ensures.limits in
    accepts c.requires _ _ refl _ _ _ c.done.ensures refl
    (rw (c.in-Ok.ensures.ok, c.as_slice.ensures)
    (entered t g.call.seat (Event.Allow names) refl c.requires.space
    (rw (le-leb (different (names ++ allow_list g.call.past)) 1024 (omega arith)))
    refl
    (λ its. (
      names_follow g.call.past c.args.self.now.admission t.admission g.call.seat Reply.Done
          names,
      t.processes,
      follows_other (audit_of g.call.past) _ _ (audit_next g.call.past) t.monitors refl,
    ))))

pub returns-in-Err-AllowFull : goal.returns-in-Err-AllowFull
returns-in-Err-AllowFull g c =
    let over = rw (c.in-Err-AllowFull.field-0-is, c.as_slice.ensures) at
    c.in-Err-AllowFull.ensures.refused in
    let is = names_counted g.call.past c.args.self.now.admission c.requires.keeps.follows.admission
    c.args.names.now in
    rw c.in-Err-AllowFull.ensures.same
    (refuses c.requires _ Rule.AllowFull
    (rw (lt-leb (different (c.args.names.now ++ allow_list g.call.past)) 1024
    (omega arith))) refl)
