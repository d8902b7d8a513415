use Rattle.policy_audit.proofs.Untouched.{entry_leaves, others_left}
use Rattle.policy_audit.proofs.laws.refusal_leaves.Goals as goal

pub returns : goal.returns
returns c = record { all = entry_leaves; links = others_left }
