use Rattle.frame_laws.proofs
use proofs.Places.{holds_then}
use proofs.SaidUp.{all_said_up, IsSaidUp}
use Rattle.frame_laws.proofs.laws.said_once_up.Goals as goal

pub returns : goal.returns
returns c = λ h legal l n x q. (holds_then h.opening l (IsSaidUp l) h.entries legal
    (all_said_up h.opening h.entries legal l) n x q).holds
