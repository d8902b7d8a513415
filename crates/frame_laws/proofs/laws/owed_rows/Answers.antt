use Rattle.frame_laws.proofs
use proofs.LinksTell.{all_tell}
use proofs.Through.{passes}
use Rattle.frame_laws.proofs.laws.owed_rows.Goals as goal

pub returns : goal.returns
returns c = λ h node l v speaks s. passes v h.opening l s h.entries node speaks
    (all_tell h.opening h.entries node l v speaks s)
