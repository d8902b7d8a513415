use Rattle.policy_audit.proofs.OldTold.{few_local}
use Rattle.policy_audit.proofs.laws.few_own.Goals as goal

pub returns : goal.returns
returns c = few_local
