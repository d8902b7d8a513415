use Rattle.node_core.proofs
use proofs.Words.{ap, broken_off, committed, IsDifference, map, Message, no_count, refl, Reply}
use proofs.Words.{Rule, said_in, shown_numbers, subst, sym}
use proofs.Answering.{accepts_ending, refuses, wanted}
use proofs.Ended.{turns_on}
use proofs.MessagePlaces.{runs_here, scope_here, stopped_here}
use proofs.OwnChanges.{one_proper}
use proofs.Scopes.{counts_listed}
use proofs.Told.{alike_again, dropped_again, follow_idle, prepared_told}
use proofs.Stopping.{both_ways, ends_unbroken, stop_now}
use proofs.Searched.{scopes_ascend}
use proofs.kept.Kept.stop_scope.Goals as goal

pub returns-in_default : goal.returns-in_default
returns-in_default g c =
    refuses c.requires _ Rule.NoScope
    (rw (stopped_here c.requires.keeps.follows c.args.scope.now
    (sym (rw c.deref.ensures.value at c.in_default.ensures)))) refl

pub tell_stop-requires : goal.tell_stop-requires
tell_stop-requires g c =
    follow_idle c.requires.keeps.follows

pub returns-in_err-own : goal.returns-in_err-own
returns-in_err-own g c = wanted c.requires _ _ refl
    (alike_again c.requires.keeps.follows c.tell_stop.new.links.items
    c.in_err-own.ensures.same) _ c.from_residual-in_err-own.ensures.1

pub ending_with-ending-requires : goal.ending_with-ending-requires
ending_with-ending-requires g c = rw (c.deref-4.ensures.value, c.in_ok-own.ensures.change)
    (one_proper c.args.scope.now c.in_ok-groups.groups.items c.in_ok-groups.ensures.proper)

pub returns-in_err-ending : goal.returns-in_err-ending
returns-in_err-ending g c =
    let t = c.requires.keeps.follows in
    let old = c.args.self.now.links.items in
    wanted c.requires _ _ refl
    (alike_again t c.or_forget.new.links.items
    (dropped_again (shown_numbers old) (said_in (Message.Down c.args.scope.now)) old
    c.tell_stop.new.links.items c.or_forget.new.links.items
    (follow_idle t) c.in_ok-own.ensures.told
    c.in_err-ending.ensures.forgot))
    _ c.from_residual-in_err-ending.ensures.1

pub returns : goal.returns
returns g c =
    let h = g.call.past in
    let t = c.requires.keeps.follows in
    let scope = c.args.scope.now in
    let placed = sym (rw c.deref.ensures.value at c.in-Some.ensures) in
    let there = scope_here t scope placed c.index.ensures in
    let runs = runs_here t scope c.in-Some.place placed in
    let groups = subst (λ f. IsDifference f no_count c.in_ok-groups.groups.items)
    (counts_listed h scope c.index.result.now there.named there.running)
    c.in_ok-groups.ensures in
    let old = c.args.self.now.links.items in
    let prepared = c.tell_stop.new.links.items in
    let told = prepared_told (shown_numbers old) (said_in (Message.Down scope)) old prepared
    (follow_idle t) c.in_ok-own.ensures.told in
    let broken = map (broken_off scope) prepared in
    let turns = stop_now h g.call.seat scope c.in_ok-groups.groups.items _ t runs groups
    c.requires.space (map committed prepared) told in
    accepts_ending c.requires _ _ refl _ Reply.Done _ c.settled.ensures.done
    (rw c.drop_scope.ensures.dropped
    (turns_on t g.call.seat _ turns broken (both_ways scope prepared) c.in_ok-ending.ending
    (rw (
      c.deref-2.ensures.value,
      c.deref-3.ensures.value,
      c.deref-4.ensures.value,
      c.in_ok-own.ensures.change,
      sym c.in_ok-ending.ensures.result,
      sym (ends_unbroken scope prepared),
    ) at c.ending_with-ending.ensures)
    (rw (
      c.in_ok-own.ensures.change,
      c.break_off.ensures,
      c.commit.ensures,
      ap (λ x. x.items) c.in_ok-ending.ensures.same,
      c.take_out.ensures,
    ) at c.settled.ensures.ended)))

pub place_of-requires : goal.place_of-requires
place_of-requires g c = rw c.deref.ensures.value (scopes_ascend c.requires.keeps.follows)
