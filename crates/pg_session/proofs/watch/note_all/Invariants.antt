use Rattle.std.proofs.Common.{map, ◌≡◌}
use Rattle.pg_session.specs.Watching.{noted}
use Rattle.pg_session.proofs.watch.note_all.Given as goal

-- once the entries that are left are noted, all are
abbrev pub invariant-loop-entry : goal.invariant-loop-entry
invariant-loop-entry l = map (noted l.entry-iterator) l.watches.items ≡ map (noted l.fn.entries)
    l.fn.watches.items
