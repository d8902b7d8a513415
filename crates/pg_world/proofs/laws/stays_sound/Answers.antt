use Rattle.pg_world.proofs.Staying.{stays}
use Rattle.pg_world.proofs.laws.stays_sound.Goals as goal

pub returns : goal.returns
returns c = stays
