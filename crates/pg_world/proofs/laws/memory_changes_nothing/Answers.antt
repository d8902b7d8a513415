use Rattle.pg_world.proofs.Refusals.{memory_same}
use Rattle.pg_world.proofs.laws.memory_changes_nothing.Goals as goal

pub returns : goal.returns
returns c = memory_same
