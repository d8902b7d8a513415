use Rattle.policy_audit.proofs.Equal.{events_equal, replies_equal, verdicts_equal}
use Rattle.policy_audit.proofs.laws.equal_values.Goals as goal

pub returns-clause-events : goal.returns-clause-events
returns-clause-events c = events_equal

pub returns-clause-replies : goal.returns-clause-replies
returns-clause-replies c = replies_equal

pub returns-clause-verdicts : goal.returns-clause-verdicts
returns-clause-verdicts c = verdicts_equal
