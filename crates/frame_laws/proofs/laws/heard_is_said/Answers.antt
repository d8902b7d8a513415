use Rattle.frame_laws.proofs.Hearing.{heard_said}
use Rattle.frame_laws.proofs.laws.heard_is_said.Goals as goal

pub returns : goal.returns
returns c = λ h legal l v. heard_said v h.opening h.entries legal l
