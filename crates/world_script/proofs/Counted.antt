-- A step of a world keeps the number of its nodes.
use Rattle.std.proofs.Common.{ap, length, length-set, ◌∙◌, ◌≡◌}
use Rattle.std.specs.declared.result.Result.{Result}
use Rattle.pg_world.specs.declared.world_step.WorldStep.{WorldStep}
use Rattle.pg_world.specs.declared.world_step.WorldReply.{WorldReply}
use Rattle.pg_world.specs.declared.fault.WorldFault.{WorldFault}
use Rattle.pg_world.specs.World.{Nodes}
use Rattle.pg_world.specs.Steps.{Asks, IsWorldStep, Refuses, Turn, turn_of, Turns}

turns_keep : (old new : Nodes) (t : WorldStep) (turn : Turn) (r : Result WorldReply WorldFault)
    → Turns old t turn new r → length new.nodes ≡ length old.nodes
turns_keep old new t (Refuses f) r is = ap (λ (w : Nodes). length w.nodes) is.1
turns_keep old new t (Asks i seat e) r is = ap length is.nodes ∙ length-set old.nodes i is.after

pub keeps_nodes : (old new : Nodes) (t : WorldStep) (r : Result WorldReply WorldFault)
    → IsWorldStep old t new r → length new.nodes ≡ length old.nodes
unfolding IsWorldStep
keeps_nodes old new t r is = turns_keep old new t (turn_of old t) r is
