use Rattle.std.specs.List.{list_any}
use Rattle.policy_audit.specs.Monitors.{is_watched}
use Rattle.pg_session.proofs.Noted.{raised_changes, raised_stops}
use Rattle.pg_session.proofs.watched.Watched.note_change.Goals as goal

pub returns-in-Some-clause-stops : goal.returns-in-Some-clause-stops
returns-in-Some-clause-stops c =
    raised_stops c.args.self.now.scopes (c.get_mut.follows.lender c.note.new.self)
    c.args.change.now.scope c.in-Some.news.now c.note.new.self _ c.args.number c.note.ensures
    (c.get_mut.follows.holds c.note.new.self) c.in-Some.ensures.value

pub returns-in-Some-clause-changes : goal.returns-in-Some-clause-changes
returns-in-Some-clause-changes c = rw (← c.as_slice.ensures)
    (raised_changes c.args.self.now.scopes (c.get_mut.follows.lender c.note.new.self)
    c.args.change.now.scope c.in-Some.news.now c.note.new.self
    (λ g. list_any (is_watched g) c.as_slice.result.now) c.args.number c.note.ensures
    (c.get_mut.follows.holds c.note.new.self) c.in-Some.ensures.value)
