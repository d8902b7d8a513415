use Rattle.pg_world.proofs.Moments.{lists_now}
use Rattle.pg_world.proofs.laws.list_now.Goals as goal

pub returns : goal.returns
returns c = lists_now
