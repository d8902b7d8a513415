use Rattle.scope_core.proofs
use proofs.Members.{joined_listing, left_listing}
use proofs.laws.rows_of_difference.Goals as goal

pub returns : goal.returns
returns c = record { left = left_listing; joined = joined_listing }
