use Rattle.policy_audit.proofs.Whole.{up-admitted, up-is-admitted}
use Rattle.policy_audit.proofs.laws.admitted.Goals as goal

pub returns-clause-up : goal.returns-clause-up
returns-clause-up c = up-admitted

pub returns-clause-only : goal.returns-clause-only
returns-clause-only c = up-is-admitted
