use Rattle.policy_audit.proofs.Parted.{parts_are_said}
use Rattle.policy_audit.proofs.laws.parts_are_said.Goals as goal

pub returns : goal.returns
returns c = parts_are_said
