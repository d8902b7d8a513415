use Rattle.pg_session.proofs.Callers.{called_connections, came_after, on_ok}
use Rattle.pg_session.proofs.caller.Caller.call.Goals as goal

pub invariant_of-self : goal.invariant_of-self
invariant_of-self g c =
    called_connections c.self.inside.pass c.call-answer.follows.lender-at-none c.args.event
    c.self.invariant (rw (← c.self.view_is) at c.requires) (_, c.call-answer.follows.holds-at-none)

pub returns-clause-called : goal.returns-clause-called
returns-clause-called g c = rw (← c.self.view_is) (_, c.call-answer.follows.holds-at-none)

pub returns-clause-ok : goal.returns-clause-ok
returns-clause-ok g c = rw (← c.self.view_is) (on_ok c.put_answer.result
    (λ x. (_, c.call-answer.follows.holds-at-none, x.0, x.1)) c.put_answer.ensures.ok)

pub returns-clause-own : goal.returns-clause-own
returns-clause-own g c =
    rw (← c.self.view_is) (came_after c.self.inside.pass c.call-answer.follows.lender-at-none
    c.args.event _ c.args.outcome.now c.put_answer.new.outcome c.call-answer.follows.holds-at-none
    c.put_answer.ensures.came)
