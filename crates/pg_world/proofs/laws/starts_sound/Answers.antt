use Rattle.pg_world.proofs.Starting.{starts}
use Rattle.pg_world.proofs.laws.starts_sound.Goals as goal

pub returns : goal.returns
returns c = starts
