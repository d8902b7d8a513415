use Rattle.std.proofs.Common.{drop, map, take, ◌++◌, ◌≡◌}
use Rattle.pg_session.specs.Watching.{aged}
use Rattle.pg_session.proofs.watch.note_ages.Given as goal

-- those so far have noted it
abbrev pub invariant-loop-watch : goal.invariant-loop-watch
invariant-loop-watch l = l.watch-items ≡ map (aged l.stale) (take l.watch-index l.fn.watches.items)
    ++ drop l.watch-index l.fn.watches.items
