use Rattle.pg_session.proofs.Noted.{scope_added}
use Rattle.pg_session.proofs.watched.Watched.add_scope.Goals as goal

pub returns-clause-same : goal.returns-clause-same
returns-clause-same c =
    scope_added c.args.self.now.scopes c.insert.new.self c.in_ok-try_clone.field-0 c.new.result
    c.in_ok-insert.ensures.updates c.new.ensures.stopped c.new.ensures.changed
