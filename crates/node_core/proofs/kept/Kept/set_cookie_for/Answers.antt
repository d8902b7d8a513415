use Rattle.node_core.proofs
use proofs.Words.{audit_of, Event, follows_other, refl, Reply}
use proofs.Answering.{accepts, failed}
use proofs.Cookies.{cookie_calm, cookie_for_follows, peers_fit}
use proofs.Calm.{entered}
use proofs.Entered.{audit_next}
use proofs.kept.Kept.set_cookie_for.Goals as goal

pub returns-in_err-give_cookie : goal.returns-in_err-give_cookie
returns-in_err-give_cookie g c =
    rw c.in_err-give_cookie.ensures.same
    (failed c.requires _ _ refl c.requires.keeps.follows c.in_err-give_cookie.field-0.0
    (cookie_calm g.call.past c.args.self.now.admission c.requires.keeps.follows.admission
    g.call.seat c.args.peer.now c.args.cookie.now c.in_err-give_cookie.field-0.0
    c.in_err-give_cookie.ensures.refused) _ c.from_residual.ensures.1)

pub returns : goal.returns
returns g c =
    let t = c.requires.keeps.follows in
    let peer = c.args.peer.now in
    let cookie = c.args.cookie.now in
    let fits = peers_fit g.call.past c.args.self.now.admission t.admission peer cookie
    (rw c.in_ok-give_cookie.ensures.ok at c.in_ok-give_cookie.ensures.limits) in
    accepts c.requires _ _ refl _ _ _ c.done.ensures refl
    (rw c.in_ok-give_cookie.ensures.ok
    (entered t g.call.seat (Event.SetCookieFor peer cookie) refl c.requires.space (rw fits) refl
    (λ its. (
      cookie_for_follows g.call.past c.args.self.now.admission t.admission g.call.seat
          Reply.Done peer cookie,
      t.processes,
      follows_other (audit_of g.call.past) _ _ (audit_next g.call.past) t.monitors refl,
    ))))
