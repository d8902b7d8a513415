use Rattle.pg_session.proofs.Noted.{group_noted}
use Rattle.pg_session.proofs.watched.ScopeNews.note_group.Goals as goal

pub returns-in-Some : goal.returns-in-Some
returns-in-Some c =
    group_noted c.args.self.now (c.get_mut.follows.lender c.max.result) c.args.change.now
    c.args.number c.in-Some.last.now c.max-self.result c.max.result c.max-self.ensures
    c.max.ensures (c.get_mut.follows.holds c.max.result) c.in-Some.ensures.value
