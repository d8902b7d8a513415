use Rattle.frame_laws.proofs.Moments.{legal_then, node_then}
use Rattle.frame_laws.proofs.laws.moments_stand.Goals as goal

pub returns : goal.returns
returns c = record { legal = legal_then; node = node_then }
