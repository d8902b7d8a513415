use Rattle.pg_world.proofs.Refusals.{wires_kept}
use Rattle.pg_world.proofs.laws.refusals_keep_wires.Goals as goal

pub returns : goal.returns
returns c = wires_kept
