use Rattle.node_core.proofs
use proofs.Words.{ap, KeptLink, refl, up_peer, ◌∙◌}
use proofs.Answering.{accepts, fails, wanted}
use proofs.MessagePlaces.{scope_here, up_here}
use proofs.MessageKept.{unasked}
use proofs.MessageParts.{part_calm, part_kept, taken_back}
use proofs.MessageRefused.{gathered_rows, has_peer}
use proofs.MessageRoom.{follows_with, same_links, same_scope, still_scope}
use proofs.kept.Kept.part.Goals as goal

pub returns-in_err-undo : goal.returns-in_err-undo
returns-in_err-undo g c = λ body says.
    let on = c.requires.on in
    let t = on.link.called.keeps.follows in
    wanted on.link.called _ _ refl
    (follows_with t
    (still_scope t c.args.scope c.requires.there c.index_mut-running.ensures.value)
    (same_links t c.args.route.number on.up on.link.here c.index_mut-link.ensures.value
    c.in_err-undo.ensures.same))
    _ c.from_residual.ensures.1

pub unreachable-requires : goal.unreachable-requires
unreachable-requires g c =
    let on = c.requires.on in
    has_peer
    (up_here on.link.called.keeps.follows c.args.route.number on.up on.link.here
    c.index_mut-link.ensures.value)
    (c.in_default.ensures
    ∙ ap (λ (z : KeptLink). up_peer z.state) c.in_ok-undo.ensures.ok)

pub hear_or_test-requires : goal.hear_or_test-requires
hear_or_test-requires g c =
    let on = c.requires.on in
    let t = on.link.called.keeps.follows in
    let here = up_here t c.args.route.number on.up on.link.here c.index_mut-link.ensures.value in
    rw c.begun_rows-rows.ensures
    (gathered_rows here t.sound.played c.args.kind c.args.scope c.args.count c.args.last
    c.args.rows c.requires.holds c.in_ok-undo.ensures.ok c.in-Some.ensures)

pub returns-in-Err : goal.returns-in-Err
returns-in-Err g c = λ body says.
    let on = c.requires.on in
    let t = on.link.called.keeps.follows in
    let kept = c.in_ok-undo.ensures in
    let why = c.in-Err.ensures in
    fails on.link.called _ _ refl
    (follows_with t
    (same_scope t c.args.scope c.requires.there c.index_mut-running.ensures.value why.same)
    (same_links t c.args.route.number on.up on.link.here c.index_mut-link.ensures.value
    (taken_back kept.ok c.undo.ensures kept.undo)))
    c.in-Err.fault
    (part_calm t g.call.seat c.args.route.number body on.link.called.space on.up on.link.here
    c.index_mut-link.ensures.value c.args.scope c.hear_or_test.new.running c.requires.there
    c.index_mut-running.ensures.value c.args.last c.args.kind c.args.count c.args.rows says
    c.requires.holds kept.ok c.in-Some.ensures c.in-Err.fault
    (rw (c.begun_rows-rows.ensures, c.row_limit-limit.ensures) at why.refused))

pub returns-in-Ok : goal.returns-in-Ok
returns-in-Ok g c = λ body says.
    let on = c.requires.on in
    let t = on.link.called.keeps.follows in
    let done = c.in-Ok.ensures in
    let scope = scope_here t c.args.scope c.requires.there c.index_mut-running.ensures.value in
    accepts on.link.called _ _ refl _ _ _
    (rw (done.change.changes, scope.named) at c.changed.ensures)
    (unasked g.call.past c.args.route.number body _ says refl)
    (part_kept t g.call.seat c.args.route.number body on.link.called.space on.up on.link.here
    c.index_mut-link.ensures.value c.args.scope c.hear_or_test.new.running c.requires.there
    c.index_mut-running.ensures.value c.args.last c.args.kind c.args.count c.args.rows says
    c.requires.holds c.in_ok-undo.ensures.ok c.in-Some.ensures
    (rw (c.begun_rows-rows.ensures, c.row_limit-limit.ensures) at done.holds)
    done.change.groups (rw c.begun_rows-rows.ensures at done.ok)
    done.change.difference c.settle.ensures)
