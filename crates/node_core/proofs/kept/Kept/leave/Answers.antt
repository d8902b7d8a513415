use Rattle.node_core.proofs
use proofs.Words.{ap, committed, is_local, leave_of, list_all, map, refl, Reply, Rule, said_in}
use proofs.Words.{said_to, scope_place, Some, sym, true, ◌∙◌, ◌≡◌}
use proofs.Answering.{accepts_ending, failed, refuses, wanted}
use proofs.Ended.{turns_on}
use proofs.Moved.{moved_so, unmoved}
use proofs.MessagePlaces.{runs_here, scope_here, stopped_here}
use proofs.OwnChanges.{one_place}
use proofs.OwnLimits.{few_told}
use proofs.Told.{alike_again, dropped_again, follow_idle, prepared_told}
use proofs.Joining.{leave_calm, leave_foreign, leaves_own, left}
use proofs.Searched.{scopes_ascend}
use Rattle.node_core.proofs.kept.Kept.leave.Given.{Over}
use Rattle.node_core.proofs.kept.Kept.leave.Goals.{After-index}
use Rattle.node_core.proofs.kept.Kept.leave.Goals as goal

-- the scope is at the place that was found, and the processes are own ones
placed : (g : Over) (c : After-index g)
    → scope_place c.args.scope.now c.args.self.now.scopes.items ≡ Some c.in-Some.place
placed g c = sym (rw c.deref.ensures.value at c.in-Some.ensures)

local : (g : Over) (c : After-index g) → list_all (is_local g.call.past) c.args.pids.now ≡ true
local g c = sym (rw c.as_slice-pids.ensures at c.are_local.ensures) ∙ c.if-not-are_local.false

pub returns-in_default : goal.returns-in_default
returns-in_default g c =
    refuses c.requires _ Rule.NoScope
    (rw (stopped_here c.requires.keeps.follows c.args.scope.now
    (sym (rw c.deref.ensures.value at c.in_default.ensures)))) refl

pub returns-then-not-are_local : goal.returns-then-not-are_local
returns-then-not-are_local g c =
    refuses c.requires _ Rule.NotLocal
    (leave_foreign g.call.seat c.requires.keeps.follows c.args.scope.now c.args.group.now
    c.args.pids.now
    (runs_here c.requires.keeps.follows c.args.scope.now c.in-Some.place
    (sym (rw c.deref.ensures.value at c.in-Some.ensures)))
    (sym (rw c.as_slice-pids.ensures at c.are_local.ensures) ∙ c.if-not-are_local.true)) refl

pub tell_leave-requires-clause-idle : goal.tell_leave-requires-clause-idle
tell_leave-requires-clause-idle g c =
    follow_idle c.requires.keeps.follows

pub tell_leave-requires-clause-own : goal.tell_leave-requires-clause-own
tell_leave-requires-clause-own g c =
    let a = (goal.at.tell_leave-requires-clause-own g c).After-index in
    rw c.as_slice-pids.ensures
    (leaves_own g.call.seat c.requires.keeps.follows c.args.scope.now c.args.group.now
    c.args.pids.now
    (placed g a) c.index.ensures
    (local g a))

pub tell_leave-requires-clause-few : goal.tell_leave-requires-clause-few
tell_leave-requires-clause-few g c =
    let a = (goal.at.tell_leave-requires-clause-few g c).After-index in
    let t = c.requires.keeps.follows in
    let here = scope_here t c.args.scope.now (placed g a)
    c.index.ensures in
    few_told t c.index.result.now here.running

pub leave_ending-ending-requires : goal.leave_ending-ending-requires
leave_ending-ending-requires g c =
    let a = (goal.at.leave_ending-ending-requires g c).After-index in
    rw c.as_slice-pids.ensures
    (leaves_own g.call.seat c.requires.keeps.follows c.args.scope.now c.args.group.now
    c.args.pids.now
    (placed g a) c.index-2.ensures
    (local g a))

pub returns-in_err-tell_leave : goal.returns-in_err-tell_leave
returns-in_err-tell_leave g c = wanted c.requires _ _ refl
    (alike_again c.requires.keeps.follows c.tell_leave.new.links.items
    c.in_err-tell_leave.ensures.same) _ c.from_residual.ensures.1

pub returns-in_err-ending : goal.returns-in_err-ending
returns-in_err-ending g c =
    let t = c.requires.keeps.follows in
    let old = c.args.self.now.links.items in
    let said = leave_of c.index.result.now c.args.group.now c.args.pids.now in
    wanted c.requires _ _ refl
    (alike_again t c.or_forget.new.links.items
    (dropped_again (said_to c.index.result.now.told.items said)
    (said_in said) old c.tell_leave.new.links.items c.or_forget.new.links.items
    (follow_idle t)
    (rw c.as_slice-pids.ensures at c.in_ok-tell_leave.ensures.told) c.in_err-ending.ensures.forgot))
    _ c.from_residual-in_err-ending.ensures.1

pub returns-in_err-own : goal.returns-in_err-own
returns-in_err-own g c =
    let a = (goal.at.returns-in_err-own g c).After-index in
    let t = c.requires.keeps.follows in
    let old = c.args.self.now.links.items in
    let said = leave_of c.index.result.now c.args.group.now c.args.pids.now in
    failed c.requires _ _ refl
    (unmoved t c.in-Some.place c.index_mut.ensures.value
    (rw (sym c.in_err-own.ensures.result) at c.leave_one-own.ensures.same)
    (dropped_again (said_to c.index.result.now.told.items said)
    (said_in said) old c.tell_leave.new.links.items c.or_forget-2.new.links.items
    (follow_idle t)
    (rw c.as_slice-pids.ensures at c.in_ok-tell_leave.ensures.told)
    (rw (ap (λ x. x.items) c.in_ok-ending.ensures.same) at c.in_err-own.ensures.forgot)))
    c.in_err-own.field-0.0
    (leave_calm g.call.seat t c.args.scope.now c.args.group.now c.args.pids.now (placed g a)
    c.index_mut.ensures.value
    (local g a)
    c.in_err-own.field-0.0
    (rw (
      c.as_slice-pids.ensures,
      sym c.in_err-own.ensures.result,
    ) at c.leave_one-own.ensures.refused))
    _ c.from_residual-in_err-own.ensures.1

pub returns : goal.returns
returns g c =
    let a = (goal.at.returns g c).After-index in
    let h = g.call.past in
    let t = c.requires.keeps.follows in
    let scopes = c.args.self.now.scopes.items in
    let old = c.args.self.now.links.items in
    let prepared = c.tell_leave.new.links.items in
    let at = c.index_mut.ensures.value in
    let within = (scope_here t c.args.scope.now (placed g a) at).within in
    let one = one_place scopes c.in-Some.place within c.index.ensures at in
    let again = one_place scopes c.in-Some.place within c.index-2.ensures at in
    let said = leave_of c.index_mut.result.now c.args.group.now c.args.pids.now in
    let told = prepared_told (said_to c.index_mut.result.now.told.items said)
    (said_in said) old prepared
    (follow_idle t)
    (rw (c.as_slice-pids.ensures, one) at c.in_ok-tell_leave.ensures.told) in
    let by = rw (
      c.as_slice-pids.ensures,
      sym c.in_ok-own.ensures.result,
    ) at c.leave_one-own.ensures.left in
    let turns = left g.call.seat t c.args.scope.now c.args.group.now c.args.pids.now (placed g a) at
    c.leave_one-own.new.running (map committed prepared) c.in_ok-own.own.items
    (moved_so by told by.change) c.requires.space
    (local g a) (rw (
      c.as_slice-pids.ensures,
      sym c.in_ok-own.ensures.result,
    ) at c.leave_one-own.ensures.some) in
    accepts_ending c.requires _ _ refl _ Reply.Done _ c.settled.ensures.done
    (turns_on t g.call.seat _ turns prepared refl c.in_ok-ending.ending
    (rw (
      c.as_slice-pids.ensures,
      c.deref-2.ensures.value,
      c.deref-3.ensures.value,
      again,
      sym c.in_ok-ending.ensures.result,
    )
    at c.leave_ending-ending.ensures)
    (rw (
      c.commit.ensures,
      ap (λ x. x.items) c.in_ok-own.ensures.same,
      ap (λ x. x.items) c.in_ok-ending.ensures.same,
    ) at c.settled.ensures.ended))

pub place_of-requires : goal.place_of-requires
place_of-requires g c = rw c.deref.ensures.value (scopes_ascend c.requires.keeps.follows)
