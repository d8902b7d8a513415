-- `==` of bytes and of lists decides equality.
use Rattle.std.proofs.lemmas.Slice.Eq.{bytes_eq-Decides, slice_eq-Decides}

pub ruleset exact = (bytes_eq-Decides, slice_eq-Decides)
