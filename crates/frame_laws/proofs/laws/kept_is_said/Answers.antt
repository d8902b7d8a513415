use Rattle.frame_laws.proofs.Hearing.{keeps_or_not}
use Rattle.frame_laws.proofs.laws.kept_is_said.Goals as goal

pub returns : goal.returns
returns c = λ h legal l v. keeps_or_not v h.opening h.entries legal l
