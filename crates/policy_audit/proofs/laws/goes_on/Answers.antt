use Rattle.policy_audit.proofs
use proofs.ChangeLemmas.{change_is, next_is}
use proofs.Losses.{legal_next}
use Rattle.policy_audit.proofs.laws.goes_on.Goals as goal

pub returns-clause-legal : goal.returns-clause-legal
returns-clause-legal c = legal_next

pub returns-clause-next : goal.returns-clause-next
returns-clause-next c = next_is

pub returns-clause-computed : goal.returns-clause-computed
returns-clause-computed c = change_is
