use Rattle.pg_session.proofs.Noted.{entry_noted}
use Rattle.pg_session.proofs.watched.Watched.note.Goals as goal

pub returns : goal.returns
returns c =
    entry_noted c.args.entry.now c.args.self.now c.note_stop.new.self c.note_changes.new.self
    c.note_stop.ensures.stops c.note_stop.ensures.changes c.note_changes.ensures.stops
    (rw c.as_slice.ensures at c.note_changes.ensures.changes)
