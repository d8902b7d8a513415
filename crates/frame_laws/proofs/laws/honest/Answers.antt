use Rattle.frame_laws.proofs
use proofs.Bodies.{honest_first}
use proofs.HonestNode.{node_honest}
use Rattle.frame_laws.proofs.laws.honest.Goals as goal

pub returns : goal.returns
returns c = record { owed = node_honest; first = honest_first }
