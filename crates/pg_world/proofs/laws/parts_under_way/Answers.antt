use Rattle.pg_world.proofs.UnderWay.{parts_go_on}
use Rattle.pg_world.proofs.laws.parts_under_way.Goals as goal

pub returns : goal.returns
returns c = parts_go_on
