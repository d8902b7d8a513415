use Rattle.pg_session.proofs.Noted.{stop_changes, stop_noted}
use Rattle.pg_session.proofs.watched.Watched.note_stop.Goals as goal

pub returns-in-Some-get_mut-clause-stops : goal.returns-in-Some-get_mut-clause-stops
returns-in-Some-get_mut-clause-stops c =
    let news = c.in-Some-get_mut.news.now in
    let news' = record news { stopped = c.max-news.result } in
    stop_noted c.args.self.now.scopes (c.get_mut.follows.lender news') c.in-Some.scope.now news
    c.args.entry.now.number c.max-news.result c.max-news.ensures (c.get_mut.follows.holds news')
    c.in-Some-get_mut.ensures.value c.args.entry.now c.in-Some.ensures

pub returns-in-Some-get_mut-clause-changes : goal.returns-in-Some-get_mut-clause-changes
returns-in-Some-get_mut-clause-changes c =
    let news = c.in-Some-get_mut.news.now in
    let news' = record news { stopped = c.max-news.result } in
    stop_changes c.args.self.now.scopes (c.get_mut.follows.lender news') c.in-Some.scope.now news
    c.args.entry.now.number c.max-news.result c.max-news.ensures (c.get_mut.follows.holds news')
    c.in-Some-get_mut.ensures.value
