use Rattle.node_core.proofs
use proofs.Words.{refl}
use proofs.Answering.{accepts, wanted}
use proofs.MessagePlaces.{up_here}
use proofs.MessageKept.{unasked}
use proofs.MessageParts.{roomy}
use proofs.MessageRefused.{has_peer}
use proofs.MessageRoom.{follows_with, same_links, still_scope}
use proofs.MessageScopes.{downed}
use proofs.kept.Kept.downed.Goals as goal

pub unreachable-requires : goal.unreachable-requires
unreachable-requires g c =
    let on = c.requires.on in
    has_peer
    (up_here on.link.called.keeps.follows c.args.route.number on.up on.link.here
    c.index_mut-link.ensures.value)
    c.in_default.ensures

pub returns-in_err-changes : goal.returns-in_err-changes
returns-in_err-changes g c = λ body says.
    let on = c.requires.on in
    let t = on.link.called.keeps.follows in
    wanted on.link.called _ _ refl
    (follows_with t
    (still_scope t c.args.scope c.requires.there c.index_mut-running.ensures.value)
    (same_links t c.args.route.number on.up on.link.here c.index_mut-link.ensures.value refl))
    _ c.from_residual.ensures.1

pub returns : goal.returns
returns g c = λ body says.
    let on = c.requires.on in
    let t = on.link.called.keeps.follows in
    let done = c.in_ok-changes.ensures in
    accepts on.link.called _ _ refl _ _ _ (rw done.changes at c.changed.ensures)
    (unasked g.call.past c.args.route.number body _ says refl)
    (downed t g.call.seat c.args.route.number body on.link.called.space on.up on.link.here
    c.index_mut-link.ensures.value c.args.scope c.cut_off.new.running c.requires.there
    c.index_mut-running.ensures.value c.in-Some.ensures says c.requires.holds done.groups
    c.cut_off.ensures c.index_mut-running.ensures.value done.difference
    (roomy c.clear.ensures))
