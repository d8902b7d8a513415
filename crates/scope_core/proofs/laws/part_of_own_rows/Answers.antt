use Rattle.scope_core.proofs
use proofs.Calls.{length-part}
use proofs.laws.part_of_own_rows.Goals as goal

pub returns : goal.returns
returns c = length-part
