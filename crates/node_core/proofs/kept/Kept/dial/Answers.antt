use Rattle.node_core.proofs
use proofs.Words.{refl, sym, ◌∙◌}
use proofs.Answering.{accepts, refuses}
use proofs.Openings.{dialled_now}
use proofs.LinkTests.{not_some}
use proofs.kept.Kept.dial.Goals as goal

pub returns-in-Some : goal.returns-in-Some
returns-in-Some g c = refuses c.requires.0 _ c.in-Some.rule (sym c.in-Some.ensures) refl

pub returns : goal.returns
returns g c =
    let broken = sym c.dial_refusal.ensures ∙ not_some c.dial_refusal.result
    (λ r q. c.in_default.not-Some r q) in
    accepts c.requires.0 _ _ refl _ _ _ c.linked.ensures refl
    (rw (c.push_reserved.ensures.items, c.in_ok-reserve.ensures.items, c.requires.1)
    (dialled_now c.requires.0.keeps.follows g.call.seat c.args.peer.now c.args.challenge
    c.requires.0.space broken c.in_ok-link.link (rw c.requires.1 at c.in_ok-link.ensures)))
