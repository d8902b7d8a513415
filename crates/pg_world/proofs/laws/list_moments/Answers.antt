use Rattle.pg_world.proofs.Moments.{lists_moments}
use Rattle.pg_world.proofs.laws.list_moments.Goals as goal

pub returns : goal.returns
returns c = lists_moments
