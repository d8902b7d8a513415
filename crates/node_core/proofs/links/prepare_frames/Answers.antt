use Rattle.node_core.proofs
use proofs.Words.{ap, arith, get_or_default, KeptLink, length, prepared_for, subst, sym}
use proofs.Words.{takes_parts, unroomed, with_prepared, with_room, [], ◌++◌, ◌<◌, ◌∙◌}
use Rattle.std.proofs.Math.Seq.{map-set_same}
use Rattle.std.proofs.Common.{false, OnErr, OnOk, Result, true, ◌≡◌}
use Rattle.std.specs.Result.{is_err}
use proofs.Zipped.{all_zipped, zipped, zipped_long, zipped_map, zipped_still}
use proofs.Told.{all_dropped, both, one_prepared, Prepared, unprepared}
use proofs.links.prepare_frames.Goals as goal

err_is : {T E P : Type 0} (r : Result T E) → is_err r ≡ true → OnErr r P → P
err_is r e p = grind arith

err_not : {T E P : Type 0} (r : Result T E) → is_err r ≡ false → OnOk r P → P
err_not r e p = grind arith

pub loop-place-preserved-then-not-contains : goal.loop-place-preserved-then-not-contains
loop-place-preserved-then-not-contains c =
    let numbers = c.args.numbers.now in
    let frames = both c.args.spelled.now.whole.items c.args.spelled.now.parts.items in
    let long = zipped_long (Prepared numbers frames) c.loop-place.place c.args.links.now.items
    c.loop-place.links.items c.loop-place.invariant in
    let same = unprepared numbers frames c.index.result.now c.number.result c.number.ensures
    c.if-not-contains.ensures.value in
    zipped_still (Prepared numbers frames) c.args.links.now.items c.loop-place.links.items
    c.loop-place.place c.index.result.now c.loop-place.invariant (omega arith)
    (rw (← c.index.ensures) same)

pub returns-then-is_err-clause-forgot : goal.returns-then-is_err-clause-forgot
returns-then-is_err-clause-forgot c =
    let numbers = c.args.numbers.now in
    let frames = both c.args.spelled.now.whole.items c.args.spelled.now.parts.items in
    let old = all_dropped numbers frames c.loop-place.place c.args.links.now.items
    c.loop-place.links.items c.loop-place.invariant in
    let failed = err_is c.prepare-prepared.result (sym c.if-is_err.ensures.value)
    c.prepare-prepared.ensures.same in
    let same = ap (λ x. unroomed (with_prepared x [])) failed
    ∙ ap (λ x. unroomed (with_prepared x [])) c.index_mut.ensures.value in
    c.forget.ensures
    ∙ map-set_same (λ x. unroomed (with_prepared x [])) c.loop-place.links.items
    c.loop-place.place c.prepare-prepared.new.self c.index_mut.result.now same
    ∙ old

pub loop-place-preserved : goal.loop-place-preserved
loop-place-preserved c =
    let numbers = c.args.numbers.now in
    let frames = both c.args.spelled.now.whole.items c.args.spelled.now.parts.items in
    let items = c.loop-place.links.items in
    let place = c.loop-place.place in
    let x = c.index_mut.result.now in
    let y = c.prepare-prepared.new.self in
    let long = zipped_long (Prepared numbers frames) place c.args.links.now.items items
    c.loop-place.invariant in
    let within : place < length items = omega arith in
    let made = err_not c.prepare-prepared.result (sym c.if-is_err.ensures.value)
    c.prepare-prepared.ensures.ok in
    let first = c.index.ensures
    ∙ get_or_default items place c.index.result.now x within ∙ sym c.index_mut.ensures.value in
    let second = c.index-in-loop-place.ensures
    ∙ get_or_default items place c.index-in-loop-place.result.now x within
    ∙ sym c.index_mut.ensures.value in
    let these = c.frames.ensures
    ∙ ap frames (c.takes_parts-parted.ensures
    ∙ ap (λ (z : KeptLink). takes_parts z.state) second) in
    let one = one_prepared numbers frames x y c.number.result
    (c.number.ensures ∙ ap (λ (z : KeptLink). z.number) first) c.if-not-contains.ensures.value
    (made ∙ ap (λ fs. with_room (with_prepared x (x.prepared ++ fs)) y.room) these) in
    zipped (Prepared numbers frames) c.args.links.now.items items place x y c.loop-place.invariant
    within (subst (λ z. Prepared numbers frames z y) c.index_mut.ensures.value one)

pub returns-clause-ok : goal.returns-clause-ok
returns-clause-ok c =
    let numbers = c.args.numbers.now in
    let frames = both c.args.spelled.now.whole.items c.args.spelled.now.parts.items in
    let long = zipped_long (Prepared numbers frames) c.loop-place.place c.args.links.now.items
    c.loop-place.links.items c.loop-place.invariant in
    zipped_map (Prepared numbers frames) (λ x. unroomed (prepared_for numbers frames x)) unroomed
    (λ x y e. e) c.args.links.now.items c.loop-place.links.items
    (all_zipped (Prepared numbers frames) c.loop-place.place c.args.links.now.items
    c.loop-place.links.items c.loop-place.invariant (omega arith))
