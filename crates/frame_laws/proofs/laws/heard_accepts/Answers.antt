use Rattle.frame_laws.proofs.Accepting.{accepts}
use Rattle.frame_laws.proofs.laws.heard_accepts.Goals as goal

pub returns : goal.returns
returns c = λ h legal room l seat body m. accepts h legal l seat body m room
