use Rattle.std.proofs.Common.{arith, take, take_all, []}
use Rattle.std.proofs.lemmas.List.Elements.{All-get_or, All-more, All-weaker}
use Rattle.pg_session.specs.Watched.{all_of, Knows}
use Rattle.pg_session.specs.Watching.{target}
use Rattle.pg_session.proofs.watched.Watched.of.Goals as goal

pub loop-watch-preserved : goal.loop-watch-preserved
loop-watch-preserved c =
    All-more (λ w. Knows c.add_scope.new.self [] (all_of w.scope)) c.args.watches.now
    c.loop-watch.watch-index c.watch-item.result (omega arith)
    (All-weaker (λ w. Knows c.loop-watch.watched [] (all_of w.scope))
    (λ w. Knows c.add_scope.new.self [] (all_of w.scope))
    (λ w. c.in_ok-add_scope.ensures.same w.scope)
    (take c.loop-watch.watch-index c.args.watches.now) c.loop-watch.invariant)
    (rw (← c.watch-item.is) (rw c.scope.ensures at c.in_ok-add_scope.ensures.added))

pub loop-watch-2-preserved : goal.loop-watch-2-preserved
loop-watch-2-preserved c =
    let at = c.loop-watch-2 in let item = c.watch-item-in-loop-watch-2 in
    record {
      scopes = All-weaker (λ w. Knows at.watched [] (all_of w.scope))
          (λ w. Knows c.add_group.new.self [] (all_of w.scope))
          (λ w. c.in_ok-add_group.ensures.same (all_of w.scope)) c.args.watches.now
          at.invariant.scopes;
      some = All-more (λ w. Knows c.add_group.new.self [] (target w)) c.args.watches.now
          at.watch-index item.result (omega arith)
          (All-weaker (λ w. Knows at.watched [] (target w))
          (λ w. Knows c.add_group.new.self [] (target w))
          (λ w. c.in_ok-add_group.ensures.same (target w)) (take at.watch-index c.args.watches.now)
          at.invariant.some)
          (rw (← item.is) (c.in_ok-add_group.ensures.added (rw (← item.is) at (All-get_or
          (λ w. Knows at.watched [] (all_of w.scope)) c.args.watches.now at.watch-index item.result
          (omega arith) at.invariant.scopes))));
    }

pub returns : goal.returns
returns c =
    rw (take_all c.loop-watch-2.watch-index c.args.watches.now (omega arith))
    at c.loop-watch-2.invariant.some
