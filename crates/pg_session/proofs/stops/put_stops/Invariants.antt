use Rattle.pg_session.specs.Notices.{TellsMore}
use Rattle.pg_session.proofs.stops.put_stops.Given as goal

abbrev pub invariant-loop-entry : goal.invariant-loop-entry
invariant-loop-entry l = TellsMore l.fn.out.items l.out.items
