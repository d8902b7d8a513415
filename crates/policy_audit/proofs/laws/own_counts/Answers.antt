use Rattle.policy_audit.proofs.Effects.{entry_exited, entry_joined, entry_left}
use Rattle.policy_audit.proofs.laws.own_counts.Goals as goal

pub returns-clause-joined : goal.returns-clause-joined
returns-clause-joined c = entry_joined

pub returns-clause-left : goal.returns-clause-left
returns-clause-left c = entry_left

pub returns-clause-exited : goal.returns-clause-exited
returns-clause-exited c = entry_exited
