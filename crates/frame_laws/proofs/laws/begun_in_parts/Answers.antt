use Rattle.frame_laws.proofs.BegunPlaces.{IsCut, out_cut}
use Rattle.frame_laws.proofs.laws.begun_in_parts.Goals as goal

pub returns : goal.returns
returns c = λ h node l v speaks. IsCut.each (out_cut h.opening h.entries node l v speaks)
