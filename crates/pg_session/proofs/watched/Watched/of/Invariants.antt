use Rattle.std.proofs.Common.{take, []}
use Rattle.std.specs.List.{All}
use Rattle.pg_session.specs.Watched.{all_of, Knows}
use Rattle.pg_session.specs.Watching.{target}
use Rattle.pg_session.proofs.watched.Watched.of.Given as goal

-- the scopes of those so far are watched
abbrev pub invariant-loop-watch : goal.invariant-loop-watch
invariant-loop-watch l = All (λ w. Knows l.watched [] (all_of w.scope))
    (take l.watch-index l.watches)

-- the scopes of all are watched, and those so far
abbrev pub invariant-loop-watch-2 : goal.invariant-loop-watch-2
invariant-loop-watch-2 l = record {
  scopes : All (λ w. Knows l.watched [] (all_of w.scope)) l.watches;
  some : All (λ w. Knows l.watched [] (target w)) (take l.watch-index l.watches);
}
