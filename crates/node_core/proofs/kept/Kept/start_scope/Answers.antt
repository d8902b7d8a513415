use Rattle.node_core.proofs
use proofs.Words.{ap, arith, committed, length, map, Message, refl, Reply, Rises, Rule}
use proofs.Words.{running_rises, said_in, shown_numbers, subst, sym, text_cmp, ◌<◌, ◌∙◌}
use proofs.Answering.{accepts_ending, refuses, wanted}
use proofs.Ended.{turns_on}
use proofs.MessagePlaces.{placed_is}
use proofs.Told.{alike_again, dropped_again, follow_idle, prepared_told}
use proofs.Starting.{scopes_full, start_now}
use proofs.Searched.{scopes_ascend}
use proofs.kept.Kept.start_scope.Goals as goal

pub returns-then-is_some : goal.returns-then-is_some
returns-then-is_some g c = refuses c.requires _ Rule.ScopeRunning
    (rw (sym (placed_is c.requires.keeps.follows c.args.scope.now)
    ∙ sym (rw (c.place_of.ensures, c.deref.ensures.value) at c.is_some.ensures)
    ∙ c.if-is_some.true)) refl

pub returns-then-len-ge-MAX_SCOPES : goal.returns-then-len-ge-MAX_SCOPES
returns-then-len-ge-MAX_SCOPES g c =
    let stopped = sym (placed_is c.requires.keeps.follows c.args.scope.now)
    ∙ sym (rw (c.place_of.ensures, c.deref.ensures.value) at c.is_some.ensures)
    ∙ c.if-is_some.false in
    refuses c.requires _ Rule.ScopesFull
    (scopes_full g.call.past g.call.seat c.args.scope.now _ c.requires.keeps.follows stopped
    (omega (arith, c.len.ensures, c.if-len-ge-MAX_SCOPES.true))) refl

pub asked_scope-requires : goal.asked_scope-requires
asked_scope-requires g c =
    follow_idle c.requires.keeps.follows

pub returns-in_err-running : goal.returns-in_err-running
returns-in_err-running g c =
    wanted c.requires _ (record c.args.self.now {
      scopes = c.reserve.new.self;
      links = c.asked_scope.new.links;
    }) refl
    (rw c.in_ok-reserve.ensures.items
    (alike_again c.requires.keeps.follows c.asked_scope.new.links.items
    c.in_err-running.ensures.same)) _ c.from_residual-in_err-running.ensures.1

pub ending_with-ending-requires : goal.ending_with-ending-requires
ending_with-ending-requires g c = rw (c.deref-4.ensures.value, c.new-own.ensures.items) tt

pub returns-in_err-ending : goal.returns-in_err-ending
returns-in_err-ending g c =
    let t = c.requires.keeps.follows in
    let old = c.args.self.now.links.items in
    wanted c.requires _
    (record c.args.self.now { scopes = c.reserve.new.self; links = c.or_forget.new.links }) refl
    (rw c.in_ok-reserve.ensures.items (alike_again t c.or_forget.new.links.items
    (dropped_again (shown_numbers old) (said_in (Message.Discover c.args.scope.now)) old
    c.asked_scope.new.links.items c.or_forget.new.links.items
    (follow_idle t) c.in_ok-running.ensures.told
    c.in_err-ending.ensures.forgot)))
    _ c.from_residual-in_err-ending.ensures.1

pub put_in-requires-clause-ascending : goal.put_in-requires-clause-ascending
put_in-requires-clause-ascending g c =
    rw c.in_ok-reserve.ensures.items
    (subst (Rises text_cmp) (sym c.requires.keeps.follows.scopes.running)
    (running_rises g.call.past))

pub returns : goal.returns
returns g c =
    let h = g.call.past in
    let t = c.requires.keeps.follows in
    let scope = c.args.scope.now in
    let stopped =
    sym (placed_is t scope)
    ∙ sym (rw (c.place_of.ensures, c.deref.ensures.value) at c.is_some.ensures)
    ∙ c.if-is_some.false in
    let few : length c.args.self.now.scopes.items < 64 =
    omega (arith, c.len.ensures, c.if-len-ge-MAX_SCOPES.false) in
    let new = c.in_ok-running.ensures in
    let old = c.args.self.now.links.items in
    let prepared = c.asked_scope.new.links.items in
    let told = prepared_told (shown_numbers old) (said_in (Message.Discover scope)) old prepared
    (follow_idle t) new.told in
    let turns = start_now h g.call.seat scope _ t stopped c.requires.space few
    c.in_ok-running.running new.scope (new.own ∙ ap (λ o. o.name) c.requires.keeps.opening) new.rows
    new.links.0 new.links.1 (map committed prepared) told in
    accepts_ending c.requires _ _ refl _ Reply.Done _ c.settled.ensures.done
    (turns_on t g.call.seat _ turns prepared refl c.in_ok-ending.ending
    (rw (
      c.deref-2.ensures.value,
      c.deref-3.ensures.value,
      c.deref-4.ensures.value,
      c.new-own.ensures.items,
      c.in_ok-reserve.ensures.items,
      sym c.in_ok-ending.ensures.result,
    ) at c.ending_with-ending.ensures)
    (rw (
      c.new-own.ensures.items,
      c.commit.ensures,
      ap (λ x. x.items) c.in_ok-ending.ensures.same,
      c.put_in.ensures,
      c.in_ok-reserve.ensures.items,
    ) at c.settled.ensures.ended))

pub place_of-requires : goal.place_of-requires
place_of-requires g c = rw c.deref.ensures.value (scopes_ascend c.requires.keeps.follows)
