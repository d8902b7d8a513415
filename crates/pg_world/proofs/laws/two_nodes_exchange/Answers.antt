use Rattle.pg_world.proofs.Exchanged.{one_behind, two_exchange}
use Rattle.pg_world.proofs.laws.two_nodes_exchange.Goals as goal

pub returns : goal.returns
returns c = record { now = two_exchange; behind = one_behind }
