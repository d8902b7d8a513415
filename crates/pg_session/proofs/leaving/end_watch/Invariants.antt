use Rattle.pg_session.specs.Asked.{ends}
use Rattle.pg_session.specs.Calls.{GoesOnBy}
use Rattle.pg_session.proofs.leaving.end_watch.Given as goal

abbrev pub invariant-loop : goal.invariant-loop
invariant-loop g l = GoesOnBy (ends l.number) l.fn.caller l.caller
