use Rattle.node_core.proofs
use proofs.Words.{all_frames, ap, committed, cond, lives_of, map, None, not, refl, Reply, Rule}
use proofs.Words.{Some, sym, ◌∙◌}
use proofs.Answering.{accepts_ending, refuses, wanted}
use proofs.Ended.{turns_on}
use proofs.Joining.{local_by}
use proofs.OwnChanges.{dropped, partings_proper}
use proofs.Told.{alike_again, follow_idle}
use proofs.Exited.{exit_now, exit_own, exits_wait}
use proofs.kept.Kept.exit.Goals as goal

pub returns-then-not-is_local : goal.returns-then-not-is_local
returns-then-not-is_local g c = refuses c.requires _ Rule.NotLocal
    (rw (sym (local_by c.requires.keeps c.args.pid.now) ∙ sym c.is_local.ensures
    ∙ c.if-not-is_local.true)) refl

pub returns-then-not-is_live : goal.returns-then-not-is_live
returns-then-not-is_live g c =
    let pid = c.args.pid.now in
    let local = sym (local_by c.requires.keeps pid) ∙ sym c.is_local.ensures
    ∙ c.if-not-is_local.false in
    let dead = lives_of g.call.past pid local
    ∙ sym (c.requires.keeps.follows.processes.live pid.number) ∙ sym c.is_live.ensures
    ∙ c.if-not-is_live.true in
    refuses c.requires _ Rule.NoProcess
    (λ i. cond (not (local i)) (Some Rule.NotLocal)
    (cond (not (dead i)) (Some Rule.NoProcess) None)) refl

pub tell_exit-requires-clause-own : goal.tell_exit-requires-clause-own
tell_exit-requires-clause-own g c =
    rw c.deref.ensures.value
    (exit_own g.call.past g.call.seat _ c.requires.keeps.follows c.args.pid.now
    (sym (local_by c.requires.keeps c.args.pid.now) ∙ sym c.is_local.ensures
    ∙ c.if-not-is_local.false))

pub tell_exit-requires-clause-idle : goal.tell_exit-requires-clause-idle
tell_exit-requires-clause-idle g c =
    follow_idle c.requires.keeps.follows

pub returns-in_err-own : goal.returns-in_err-own
returns-in_err-own g c = wanted c.requires _ _ refl
    (alike_again c.requires.keeps.follows c.tell_exit.new.links.items
    c.in_err-own.ensures.same) _ c.from_residual.ensures.1

pub returns-in_err-ending : goal.returns-in_err-ending
returns-in_err-ending g c =
    let t = c.requires.keeps.follows in
    let old = c.args.self.now.links.items in
    let idle = follow_idle t in
    wanted c.requires _ _ refl
    (alike_again t c.or_forget.new.links.items
    (dropped (all_frames c.deref.result.now c.in_ok-own.ensures.told.all) old
    c.tell_exit.new.links.items c.or_forget.new.links.items idle
    c.in_ok-own.ensures.told.links c.in_err-ending.ensures.forgot))
    _ c.from_residual-in_err-ending.ensures.1

pub ending_with-ending-requires : goal.ending_with-ending-requires
ending_with-ending-requires g c =
    let told = c.in_ok-own.ensures.told in
    rw (c.deref-4.ensures.value, told.some)
    (partings_proper _ c.deref.result.now told.all told.each)

pub returns : goal.returns
returns g c =
    let h = g.call.past in
    let t = c.requires.keeps.follows in
    let pid = c.args.pid.now in
    let local = sym (local_by c.requires.keeps pid) ∙ sym c.is_local.ensures
    ∙ c.if-not-is_local.false in
    let own = c.in_ok-own.own.items in
    let prepared = c.tell_exit.new.links.items in
    let idle = follow_idle t in
    let told = exits_wait pid c.args.self.now.scopes.items c.args.self.now.links.items prepared
    own idle
    (rw c.deref.ensures.value at c.in_ok-own.ensures.told) in
    let living = sym c.is_live.ensures ∙ c.if-not-is_live.false in
    let turns = exit_now h g.call.seat _ t pid local (map committed prepared) own told
    c.requires.space living
    _ (λ x f q. refl) c.leave_all.new.scopes.items c.leave_all.ensures c.exit.new.self
    c.exit.ensures.spawned c.exit.ensures.live (c.exit.ensures.count living) in
    accepts_ending c.requires _ _ refl _ Reply.Done _ c.settled.ensures.done
    (turns_on t g.call.seat _ turns prepared refl c.in_ok-ending.ending
    (rw (
      c.deref-2.ensures.value,
      c.deref-3.ensures.value,
      c.deref-4.ensures.value,
      sym c.in_ok-ending.ensures.result,
    ) at c.ending_with-ending.ensures)
    (rw (c.commit.ensures, ap (λ x. x.items) c.in_ok-ending.ensures.same)
    at c.settled.ensures.ended))
