use Rattle.scope_core.proofs
use proofs.Members.{length-members}
use proofs.laws.total_of_members.Goals as goal

pub returns : goal.returns
returns c = length-members
