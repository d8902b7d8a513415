use Rattle.node_core.proofs
use proofs.Words.{audit_of, Event, follows_other, refl, Reply}
use proofs.Answering.{accepts}
use proofs.Cookies.{cookie_follows}
use proofs.Calm.{entered}
use proofs.Entered.{audit_next}
use proofs.kept.Kept.set_cookie.Goals as goal

pub returns : goal.returns
returns g c =
    let t = c.requires.keeps.follows in
    let cookie = c.args.cookie.now in
    accepts c.requires _ _ refl _ _ _ c.done.ensures refl
    (rw (c.set_cookie.ensures, c.in_ok-kept.ensures)
    (entered t g.call.seat (Event.SetCookie cookie) refl c.requires.space refl refl
    (λ its. (
      cookie_follows g.call.past c.args.self.now.admission t.admission g.call.seat Reply.Done
          cookie,
      t.processes,
      follows_other (audit_of g.call.past) _ _ (audit_next g.call.past) t.monitors refl,
    ))))
