use Rattle.node_core.proofs
use proofs.Words.{refl, true}
use proofs.Answering.{accepts, failed}
use proofs.MessagePlaces.{up_here}
use proofs.MessageKept.{unasked}
use proofs.MessageParts.{roomy}
use proofs.MessageRefused.{has_peer, its_rows, peer_is}
use proofs.MessageRoom.{follows_with, same_links, same_scope}
use proofs.MessageScopes.{refused_calm, went_on}
use proofs.kept.Kept.whole.Goals as goal

pub unreachable-requires : goal.unreachable-requires
unreachable-requires g c =
    let on = c.requires.on in
    has_peer
    (up_here on.link.called.keeps.follows c.args.route.number on.up on.link.here
    c.index_mut-link.ensures.value)
    c.in_default.ensures

pub hear-requires : goal.hear-requires
hear-requires g c =
    let on = c.requires.on in
    let t = on.link.called.keeps.follows in
    let here = up_here t c.args.route.number on.up on.link.here c.index_mut-link.ensures.value in
    rw (c.as_slice-rows.ensures, peer_is here c.in-Some.ensures)
    (its_rows here t.sound.played c.args.kind c.args.scope 1 true c.args.rows.now c.requires.holds)

pub returns-in_err-changes : goal.returns-in_err-changes
returns-in_err-changes g c = λ body says.
    let on = c.requires.on in
    let t = on.link.called.keeps.follows in
    let why = c.in_err-changes.ensures in
    failed on.link.called _ _ refl
    (follows_with t
    (same_scope t c.args.scope c.requires.there c.index_mut-running.ensures.value why.same)
    (same_links t c.args.route.number on.up on.link.here c.index_mut-link.ensures.value refl))
    c.in_err-changes.field-0.0
    (refused_calm t g.call.seat c.args.route.number body on.link.called.space on.up on.link.here
    c.index_mut-link.ensures.value c.args.scope c.hear.new.running c.requires.there
    c.index_mut-running.ensures.value c.in-Some.ensures c.args.kind 1 true c.args.rows.now says
    c.requires.holds c.in_err-changes.field-0.0
    (rw (c.as_slice-rows.ensures, c.row_limit-limit.ensures) at why.refused))
    _ c.from_residual.ensures.1

pub returns : goal.returns
returns g c = λ body says.
    let on = c.requires.on in
    let t = on.link.called.keeps.follows in
    let done = c.in_ok-changes.ensures in
    accepts on.link.called _ _ refl _ _ _ (rw done.change.changes at c.changed.ensures)
    (unasked g.call.past c.args.route.number body _ says refl)
    (went_on t g.call.seat c.args.route.number body on.link.called.space on.up on.link.here
    c.index_mut-link.ensures.value c.args.scope c.hear.new.running c.requires.there
    c.index_mut-running.ensures.value c.in-Some.ensures 1 c.args.rows.now true c.args.kind says
    c.requires.holds (rw (c.as_slice-rows.ensures, c.row_limit-limit.ensures) at done.holds)
    done.change.groups (rw c.as_slice-rows.ensures at done.ok) done.change.difference
    (roomy c.clear.ensures))
