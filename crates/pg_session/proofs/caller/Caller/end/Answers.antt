use Rattle.pg_session.proofs.Callers.{called_connections}
use Rattle.pg_session.proofs.caller.Caller.end.Goals as goal

pub invariant_of-self : goal.invariant_of-self
invariant_of-self g c =
    called_connections c.self.inside.pass c.call.follows.lender-at-none c.args.event
    c.self.invariant (rw (← c.self.view_is) at c.requires) (_, c.call.follows.holds-at-none)

pub returns : goal.returns
returns g c = rw (← c.self.view_is) (_, c.call.follows.holds-at-none)
