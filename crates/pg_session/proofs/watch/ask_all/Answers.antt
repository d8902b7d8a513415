use Rattle.pg_session.proofs
use Rattle.std.proofs.Common.{ap, arith, drop, length, length-set, List, map, refl}
use Rattle.std.proofs.Common.{set, subst, sym, ◌∙◌}
use proofs.Begun.{begun_set}
use proofs.AskedInTurn.{all_asked, asked_next, asked_none, retaken}
use Rattle.pg_session.specs.declared.watch.Watch.{Watch}
use Rattle.pg_session.specs.Watching.{as_begun, AllAsked}
use proofs.Callers.{by_call, by_further, by_none, on_err}
use Rattle.pg_session.specs.Asked.{is_fetch}
use proofs.Telling.{news_none, tells_more}
use Rattle.pg_session.proofs.watch.ask_all.Goals as goal

pub loop-watch-init : goal.loop-watch-init
loop-watch-init g c = record {
  goes = by_none is_fetch c.args.caller.now c.args.caller.now refl;
  told = λ k. news_none k c.args.out.now.items c.args.caller.now;
  asked = rw c.deref_mut-watch-items.ensures.value
      (asked_none c.args.caller.now c.args.watches.now.items c.args.entries);
  begun = ap (map as_begun) c.deref_mut-watch-items.ensures.value;
}

pub loop-watch-preserved : goal.loop-watch-preserved
loop-watch-preserved g c = record {
  goes = by_further is_fetch c.args.caller.now c.loop-watch.caller c.tell.new.caller
      c.loop-watch.invariant.goes (by_call is_fetch c.loop-watch.caller c.tell.new.caller
      _ c.tell.ensures.called refl);
  told = λ k. tells_more c.args.caller.now c.loop-watch.caller c.tell.new.caller k k k
      c.args.out.now.items c.loop-watch.out.items c.tell.new.out.items
      (c.loop-watch.invariant.told k)
      (c.in_ok-tell.ensures.told k);
  asked = asked_next c.args.caller.now c.loop-watch.caller c.tell.new.caller
      c.args.watches.now.items c.loop-watch.watch-items c.args.entries c.loop-watch.watch-index
      c.watch-item.result c.tell.new.self (omega arith) (omega arith) c.watch-item.is
      c.loop-watch.invariant.asked (rw (← c.watch-item.is) at c.in_ok-tell.ensures.learns);
  begun = begun_set c.loop-watch.watch-items c.loop-watch.watch-index c.watch-item.result
      c.tell.new.self c.tell.ensures.still ∙ c.loop-watch.invariant.begun;
}

pub returns-in_err-tell-clause-goes : goal.returns-in_err-tell-clause-goes
returns-in_err-tell-clause-goes g c =
    by_further is_fetch c.args.caller.now c.loop-watch.caller c.tell.new.caller
    c.loop-watch.invariant.goes (by_call is_fetch c.loop-watch.caller c.tell.new.caller
    _ c.tell.ensures.called refl)

pub returns-clause-asked : goal.returns-clause-asked
returns-clause-asked g c =
    subst (λ (all : List Watch). AllAsked c.args.caller.now c.args.watches.now.items c.args.entries
    c.loop-watch.caller all) (sym (retaken c.loop-watch.watch-items
    (drop (length c.loop-watch.watch-items) c.args.watches.now.items) c.args.watches.now.len
    (omega arith)))
    (all_asked c.args.caller.now c.loop-watch.caller c.args.watches.now.items
    c.loop-watch.watch-items c.args.entries c.loop-watch.watch-index (omega arith) (omega arith)
    c.loop-watch.invariant.asked)

pub returns-in_err-tell-clause-memory : goal.returns-in_err-tell-clause-memory
returns-in_err-tell-clause-memory g c =
    let items = c.loop-watch.watch-items in
    let long = length-set items c.loop-watch.watch-index c.tell.new.self in
    on_err _
    (ap (map as_begun) (retaken (set items c.loop-watch.watch-index c.tell.new.self) _ _
    (omega arith))
    ∙ begun_set items c.loop-watch.watch-index c.watch-item.result c.tell.new.self
    c.tell.ensures.still
    ∙ c.loop-watch.invariant.begun)
