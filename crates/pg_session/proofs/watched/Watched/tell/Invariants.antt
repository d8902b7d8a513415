use Rattle.std.proofs.Common.{drop, map, take, ◌++◌, ◌≡◌}
use Rattle.pg_session.specs.Watched.{told_by}
use Rattle.pg_session.proofs.watched.Watched.tell.Given as goal

-- those so far are told
abbrev pub invariant-loop-watch : goal.invariant-loop-watch
invariant-loop-watch l =
    l.watch-items
    ≡ map (told_by l.self) (take l.watch-index l.fn.watches.items)
    ++ drop l.watch-index l.fn.watches.items
