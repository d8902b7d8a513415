use Rattle.node_core.proofs
use proofs.Words.{ap, committed, join_of, map, Opening, own_limit, own_most, refl, Reply, Rule}
use proofs.Words.{said_in, said_to, scope_place, Some, sym, ◌≡◌, ◌∙◌}
use proofs.Answering.{accepts_ending, failed, refuses, wanted}
use proofs.Ended.{turns_on}
use proofs.Moved.{moved_so, unmoved}
use proofs.MessagePlaces.{runs_here, scope_here, stopped_here}
use proofs.OwnChanges.{one_place}
use proofs.Told.{alike_again, dropped_again, follow_idle, prepared_told}
use proofs.Joining.{join_calm, join_own, joined, joins_own, joins_told, limit_here}
use proofs.Searched.{scopes_ascend}
use Rattle.node_core.proofs.kept.Kept.join.Given.{Over}
use Rattle.node_core.proofs.kept.Kept.join.Goals.{After-own_limit-limit}
use Rattle.node_core.proofs.kept.Kept.join.Goals as goal

-- the scope is at the place that was found, and the most own rows that it may have
placed : (g : Over) (c : After-own_limit-limit g)
    → scope_place c.args.scope.now c.args.self.now.scopes.items ≡ Some c.in-Some.place
placed g c = sym (rw c.deref.ensures.value at c.in-Some.ensures)

limit : (g : Over) (c : After-own_limit-limit g)
    → c.own_limit-limit.result ≡ own_limit g.call.past c.args.scope.now
limit g c =
    c.own_limit-limit.ensures
    ∙ ap (λ (o : Opening). own_most o.links c.index.result.now.told.items
    c.args.self.now.links.items) c.requires.keeps.opening
    ∙ limit_here g.call.seat c.requires.keeps.follows c.args.scope.now (placed g c) c.index.ensures

pub returns-in_default : goal.returns-in_default
returns-in_default g c =
    refuses c.requires _ Rule.NoScope
    (rw (stopped_here c.requires.keeps.follows c.args.scope.now
    (sym (rw c.deref.ensures.value at c.in_default.ensures)))) refl

pub returns-in-Some-join_refusal : goal.returns-in-Some-join_refusal
returns-in-Some-join_refusal g c =
    let a = (goal.at.returns-in-Some-join_refusal g c).After-own_limit-limit in
    refuses c.requires _ c.in-Some-join_refusal.rule
    (join_own g.call.past g.call.seat c.args.scope.now c.args.group.now c.args.pids.now
    c.own_limit-limit.result (limit g a)
    (runs_here c.requires.keeps.follows c.args.scope.now c.in-Some.place
    (placed g a)) c.in-Some-join_refusal.rule
    (sym (rw c.as_slice-pids.ensures at c.in-Some-join_refusal.ensures))) refl

pub tell_join-requires-clause-idle : goal.tell_join-requires-clause-idle
tell_join-requires-clause-idle g c =
    follow_idle c.requires.keeps.follows

pub tell_join-requires-clause-few : goal.tell_join-requires-clause-few
tell_join-requires-clause-few g c =
    let a = (goal.at.tell_join-requires-clause-few g c).After-own_limit-limit in
    rw c.as_slice-pids.ensures
    (joins_told g.call.seat c.requires.keeps.follows c.args.scope.now c.args.group.now
    c.args.pids.now c.own_limit-limit.result (limit g a) (placed g a) c.index-2.ensures
    (sym (rw c.as_slice-pids.ensures at c.in_default-join_refusal.ensures)))

pub join_one-own-requires : goal.join_one-own-requires
join_one-own-requires g c =
    let a = (goal.at.join_one-own-requires g c).After-own_limit-limit in
    rw c.as_slice-pids.ensures
    (joins_own g.call.seat c.requires.keeps.follows c.args.scope.now c.args.group.now
    c.args.pids.now c.own_limit-limit.result (limit g a) (placed g a) c.index_mut.ensures.value
    (sym (rw c.as_slice-pids.ensures at c.in_default-join_refusal.ensures)))

pub returns-in_err-tell_join : goal.returns-in_err-tell_join
returns-in_err-tell_join g c = wanted c.requires _ _ refl
    (alike_again c.requires.keeps.follows c.tell_join.new.links.items
    c.in_err-tell_join.ensures.same) _ c.from_residual.ensures.1

pub returns-in_err-ending : goal.returns-in_err-ending
returns-in_err-ending g c =
    let t = c.requires.keeps.follows in
    let old = c.args.self.now.links.items in
    let said = join_of c.index-2.result.now.scope c.args.group.now c.args.pids.now in
    wanted c.requires _ _ refl
    (alike_again t c.or_forget.new.links.items
    (dropped_again (said_to c.index-2.result.now.told.items said)
    (said_in said) old c.tell_join.new.links.items c.or_forget.new.links.items
    (follow_idle t)
    (rw c.as_slice-pids.ensures at c.in_ok-tell_join.ensures.told) c.in_err-ending.ensures.forgot))
    _ c.from_residual-in_err-ending.ensures.1

pub returns-in_err-own : goal.returns-in_err-own
returns-in_err-own g c =
    let t = c.requires.keeps.follows in
    let a = (goal.at.returns-in_err-own g c).After-own_limit-limit in
    let old = c.args.self.now.links.items in
    let said = join_of c.index-2.result.now.scope c.args.group.now c.args.pids.now in
    failed c.requires _ _ refl
    (unmoved t c.in-Some.place c.index_mut.ensures.value
    (rw (sym c.in_err-own.ensures.result) at c.join_one-own.ensures.same)
    (dropped_again (said_to c.index-2.result.now.told.items said)
    (said_in said) old c.tell_join.new.links.items c.or_forget-2.new.links.items
    (follow_idle t)
    (rw c.as_slice-pids.ensures at c.in_ok-tell_join.ensures.told)
    (rw (ap (λ x. x.items) c.in_ok-ending.ensures.same) at c.in_err-own.ensures.forgot)))
    c.in_err-own.field-0.0
    (join_calm g.call.seat t c.args.scope.now c.args.group.now c.args.pids.now
    c.own_limit-limit.result (limit g a) (placed g a)
    c.index_mut.ensures.value
    (sym (rw c.as_slice-pids.ensures at c.in_default-join_refusal.ensures))
    c.in_err-own.field-0.0
    (rw (
      c.as_slice-pids.ensures,
      sym c.in_err-own.ensures.result,
    ) at c.join_one-own.ensures.refused))
    _ c.from_residual-in_err-own.ensures.1

pub returns : goal.returns
returns g c =
    let a = (goal.at.returns g c).After-own_limit-limit in
    let h = g.call.past in
    let t = c.requires.keeps.follows in
    let scopes = c.args.self.now.scopes.items in
    let old = c.args.self.now.links.items in
    let prepared = c.tell_join.new.links.items in
    let fine = sym (rw c.as_slice-pids.ensures at c.in_default-join_refusal.ensures) in
    let at = c.index_mut.ensures.value in
    let within = (scope_here t c.args.scope.now (placed g a) at).within in
    let one = one_place scopes c.in-Some.place within c.index-2.ensures at in
    let again = one_place scopes c.in-Some.place within c.index-3.ensures at in
    let said = join_of c.index_mut.result.now.scope c.args.group.now c.args.pids.now in
    let told = prepared_told (said_to c.index_mut.result.now.told.items said)
    (said_in said) old prepared
    (follow_idle t)
    (rw (c.as_slice-pids.ensures, one) at c.in_ok-tell_join.ensures.told) in
    let by = rw (
      c.as_slice-pids.ensures,
      sym c.in_ok-own.ensures.result,
    ) at c.join_one-own.ensures.joined in
    let turns = joined g.call.seat t c.args.scope.now c.args.group.now c.args.pids.now
    c.own_limit-limit.result (limit g a) (placed g a) at
    c.join_one-own.new.running (map committed prepared) c.in_ok-own.own.items
    (moved_so by told by.change) c.requires.space
    fine (rw (
      c.as_slice-pids.ensures,
      sym c.in_ok-own.ensures.result,
    ) at c.join_one-own.ensures.few) in
    accepts_ending c.requires _ _ refl _ Reply.Done _ c.settled.ensures.done
    (turns_on t g.call.seat _ turns prepared refl c.in_ok-ending.ending
    (rw (
      c.as_slice-pids.ensures,
      c.deref-2.ensures.value,
      c.deref-3.ensures.value,
      again,
      sym c.in_ok-ending.ensures.result,
    )
    at c.join_ending-ending.ensures)
    (rw (
      c.commit.ensures,
      ap (λ x. x.items) c.in_ok-own.ensures.same,
      ap (λ x. x.items) c.in_ok-ending.ensures.same,
    ) at c.settled.ensures.ended))

pub place_of-requires : goal.place_of-requires
place_of-requires g c = rw c.deref.ensures.value (scopes_ascend c.requires.keeps.follows)
