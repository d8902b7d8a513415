use Rattle.pg_session.proofs.Noted.{notes_first, notes_none}
use Rattle.pg_session.proofs.watched.Watched.note_all.Goals as goal

pub loop-entry-preserved : goal.loop-entry-preserved
loop-entry-preserved c = λ d others. c.loop-entry.invariant d (rw c.in-Some.ensures.steps
    (notes_first c.in-Some.entry.now c.next.new.self c.loop-entry.self c.note.new.self d
    c.note.ensures others))

pub returns : goal.returns
returns c = c.loop-entry.invariant c.loop-entry.self
    (rw c.in-None.ensures.steps.0 (notes_none c.loop-entry.self))
