use Rattle.frame_laws.proofs.OneVersion.{one_version}
use Rattle.frame_laws.proofs.laws.one_version.Goals as goal

pub returns : goal.returns
returns c = λ h legal l. one_version h.opening l h.entries legal
