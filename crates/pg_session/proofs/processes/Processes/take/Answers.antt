use Rattle.pg_session.proofs.Callers.{has_last}
use Rattle.pg_session.proofs.processes.Processes.take.Goals as goal

pub returns-clause-taken : goal.returns-clause-taken
returns-clause-taken c = rw (← c.self.view_is) (has_last _ _ _ c.pop.ensures.keys)
