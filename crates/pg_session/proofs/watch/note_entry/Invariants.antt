use Rattle.std.proofs.Common.{drop, map, take, [], ◌++◌, ◌∷◌, ◌≡◌}
use Rattle.pg_session.specs.Watching.{noted}
use Rattle.pg_session.proofs.watch.note_entry.Given as goal

-- those so far have noted it
abbrev pub invariant-loop-watch : goal.invariant-loop-watch
invariant-loop-watch l =
    l.watch-items
    ≡ map (noted (l.fn.entry ∷ [])) (take l.watch-index l.fn.watches.items)
    ++ drop l.watch-index l.fn.watches.items
