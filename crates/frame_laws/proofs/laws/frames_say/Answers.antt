use Rattle.frame_laws.proofs
use proofs.FromHere.{rows_own}
use proofs.Places.{holds_then}
use proofs.Spoken.{all_said, IsSaid}
use Rattle.frame_laws.proofs.laws.frames_say.Goals as goal

pub returns-clause-one : goal.returns-clause-one
returns-clause-one c = λ h node l v speaks n x q. (holds_then h.opening l (IsSaid v) h.entries
    node.legal (all_said h.opening h.entries node l v speaks) n x q).holds

pub returns-clause-own : goal.returns-clause-own
returns-clause-own c =
    λ h node l v speaks n x m q. rows_own h.opening h.entries node l v speaks n x q m
