use Rattle.pg_session.proofs.Noted.{group_added, group_keeps}
use Rattle.pg_session.proofs.watched.Watched.add_group.Goals as goal

pub returns-in_ok-insert-clause-added : goal.returns-in_ok-insert-clause-added
returns-in_ok-insert-clause-added c = λ knows.
    let news = c.in-Some-get_mut.news.now in
    let news' = record news { groups = c.insert.new.self } in
    rw (← c.in-Some.ensures, ← c.in_ok-try_clone.ensures, ← c.scope.ensures)
    (group_added c.args.self.now.scopes (c.get_mut.follows.lender news') c.scope.result.now
    c.in_ok-try_clone.field-0 news c.insert.new.self c.in_ok-insert.ensures.updates
    (c.get_mut.follows.holds news') c.in-Some-get_mut.ensures.value
    (rw (← c.scope.ensures) at knows))

pub returns-in_ok-insert-clause-same : goal.returns-in_ok-insert-clause-same
returns-in_ok-insert-clause-same c =
    let news = c.in-Some-get_mut.news.now in
    let news' = record news { groups = c.insert.new.self } in
    group_keeps c.args.self.now.scopes (c.get_mut.follows.lender news') c.scope.result.now
    c.in_ok-try_clone.field-0 news c.insert.new.self c.in_ok-insert.ensures.updates
    (c.get_mut.follows.holds news') c.in-Some-get_mut.ensures.value
