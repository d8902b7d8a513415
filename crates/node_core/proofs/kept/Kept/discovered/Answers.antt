use Rattle.node_core.proofs
use proofs.Words.{refl, Rule, sym, ◌∙◌}
use proofs.Answering.{accepts_alone, accepts_ending, refuses, wanted}
use proofs.MessageRefused.{calm}
use proofs.MessageRoom.{answered_now, asked_calm, few_told, follows_with, holds, roomed_links}
use proofs.MessageRoom.{same_scope}
use proofs.MessageSlow.{fell_behind, few_enough}
use proofs.kept.Kept.discovered.Goals as goal

pub returns-then-not-can_be_told : goal.returns-then-not-can_be_told
returns-then-not-can_be_told g c = λ body says.
    let on = c.requires.on in
    refuses on.link.called _ Rule.RowsFull
    (asked_calm on.link.called.keeps.follows g.call.seat c.args.route.number body
    on.link.called.space on.up on.link.here c.index-link.ensures c.args.scope.now c.requires.there
    c.index-running.ensures c.requires.holds says
    (rw c.takes_parts-parted.ensures at (sym c.can_be_told.ensures ∙ c.if-not-can_be_told.true)))
    (calm g.call.past c.args.route.number body on.up Rule.RowsFull refl)

pub ready_to_answer-requires-clause-few : goal.ready_to_answer-requires-clause-few
ready_to_answer-requires-clause-few g c =
    few_told c.requires.on.link.called.keeps.follows c.args.scope.now c.requires.there
    c.index-running.ensures c.index_mut-running.ensures.value c.takes_parts-parted.result
    (sym c.can_be_told.ensures ∙ c.if-not-can_be_told.false)

pub returns-in_err-frames : goal.returns-in_err-frames
returns-in_err-frames g c = λ body says.
    let on = c.requires.on in
    let t = on.link.called.keeps.follows in
    let why = c.in_err-frames.ensures in
    wanted on.link.called _ _ refl
    (follows_with t
    (same_scope t c.args.scope.now c.requires.there c.index_mut-running.ensures.value why.same)
    (roomed_links t c.args.route.number on.up on.link.here c.index_mut-link.ensures.value
    why.roomy)) _ c.from_residual-in_err-frames.ensures.1

-- too many frames would wait
pub returns-then-frames-owed-gt-MAX_WAITING : goal.returns-then-frames-owed-gt-MAX_WAITING
returns-then-frames-owed-gt-MAX_WAITING g c = λ body says.
    let on = c.requires.on in
    let keeps = on.link.called.keeps in
    let told = rw c.takes_parts-parted.ensures at
    (sym c.can_be_told.ensures ∙ c.if-not-can_be_told.false) in
    let many = rw (
      c.frames.ensures,
      c.discover_owes-owed.ensures.owed,
      c.takes_parts-parted.ensures,
    ) at c.if-frames-owed-gt-MAX_WAITING.true in
    accepts_ending on.link.called _ _ refl _ _ _ c.changed.ensures (rw c.remove.ensures
    (fell_behind keeps.follows keeps.legal g.call.seat c.args.route.number body on.link.called.space
    on.up on.link.here c.index-link.ensures c.args.scope.now c.requires.there
    c.index-running.ensures says
    (holds keeps.follows g.call.seat c.args.route.number body on.link.called.space on.up
    on.link.here c.index-link.ensures c.args.scope.now c.requires.there c.index-running.ensures
    c.requires.holds says told)
    many c.in_ok-changes.changes.items
    c.index.ensures c.index-then-frames-owed-gt-MAX_WAITING.ensures
    (rw c.deref.ensures.value at c.in_ok-changes.ensures) c.cut_link.ensures))

pub returns : goal.returns
returns g c = λ body says.
    let on = c.requires.on in
    let keeps = on.link.called.keeps in
    let told = rw c.takes_parts-parted.ensures at
    (sym c.can_be_told.ensures ∙ c.if-not-can_be_told.false) in
    let few = rw (
      c.frames.ensures,
      c.discover_owes-owed.ensures.owed,
      c.takes_parts-parted.ensures,
    ) at c.if-frames-owed-gt-MAX_WAITING.false in
    let ready = c.in_ok-frames.ensures in
    accepts_alone on.link.called _ _ refl _ _ _ c.done.ensures
    (few_enough keeps.follows keeps.legal g.call.seat c.args.route.number body on.link.called.space
    on.up on.link.here c.index-link.ensures c.args.scope.now c.requires.there
    c.index-running.ensures says
    (holds keeps.follows g.call.seat c.args.route.number body on.link.called.space on.up
    on.link.here c.index-link.ensures c.args.scope.now c.requires.there c.index-running.ensures
    c.requires.holds says told)
    few)
    (answered_now keeps.follows g.call.seat c.args.route.number body on.link.called.space on.up
    on.link.here c.index-link.ensures c.args.scope.now c.requires.there c.index-running.ensures
    c.requires.holds says told c.index_mut-running.ensures.value c.index_mut-link.ensures.value
    ready.told (rw c.takes_parts-parted.ensures at ready.frames) ready.roomy c.answer.ensures)
