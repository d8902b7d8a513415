use Rattle.policy_audit.proofs
use proofs.UpLinks.{agrees}
use proofs.Whole.{up-gave}
use Rattle.policy_audit.proofs.laws.one_link_up.Goals as goal

pub returns-clause-given : goal.returns-clause-given
returns-clause-given c = up-gave

pub returns-clause-present : goal.returns-clause-present
returns-clause-present c = λ h legal n l. agrees _ _ legal n l
