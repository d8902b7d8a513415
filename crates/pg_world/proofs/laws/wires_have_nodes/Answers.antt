use Rattle.pg_world.proofs.Wired.{end_there, no_wires, opener_there, stays_wired}
use Rattle.pg_world.proofs.laws.wires_have_nodes.Goals as goal

pub returns : goal.returns
returns c = record
    { start = no_wires; stays = stays_wired; ends = end_there; opener = opener_there }
