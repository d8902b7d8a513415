use Rattle.pg_session.proofs
use Rattle.std.proofs.Common.{refl}
use Rattle.std.proofs.lemmas.Result.{IfOk-weaker}
use Rattle.policy_audit.specs.declared.event.Event.TheVariants.{Updates}
use proofs.Callers.{called_connections, on_ok}
use proofs.Telling.{tells_fetched}
use Rattle.pg_session.proofs.caller.Caller.fetch.Goals as goal

pub invariant_of-self : goal.invariant_of-self
invariant_of-self g c =
    called_connections c.self.inside.pass c.call-answer.follows.lender-at-none
    (Updates c.args.number) c.self.invariant refl (_, c.call-answer.follows.holds-at-none)

pub returns-clause-called : goal.returns-clause-called
returns-clause-called g c = rw (← c.self.view_is) (_, c.call-answer.follows.holds-at-none)

pub returns-clause-told : goal.returns-clause-told
returns-clause-told g c =
    rw (← c.self.view_is)
    (on_ok c.put_fetched.result (λ is known. tells_fetched c.args.number known c.self.inside.pass
    c.call-answer.follows.lender-at-none c.args.out.now.items c.put_fetched.new.out.items
    _ c.call-answer.follows.holds-at-none is) c.put_fetched.ensures.lines)

pub returns-clause-fetched : goal.returns-clause-fetched
returns-clause-fetched g c =
    rw (← c.self.view_is)
    (IfOk-weaker c.put_fetched.result _ _
    (λ fetched is. (_, c.call-answer.follows.holds-at-none, is)) c.put_fetched.ensures.fetched)
