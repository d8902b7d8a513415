use Rattle.pg_session.specs.declared.watched.Watched.{Watched}
use Rattle.pg_session.specs.Watched.{Notes}
use Rattle.pg_session.proofs.watched.Watched.note_all.Given as goal

-- once the entries that are left are noted, all are
abbrev pub invariant-loop-entry : goal.invariant-loop-entry
invariant-loop-entry l = (d : Watched) → Notes l.entry-iterator l.self d
    → Notes l.fn.entries l.fn.self d
