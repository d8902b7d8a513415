use Rattle.frame_laws.proofs.KnownAfter.{known_after}
use Rattle.frame_laws.proofs.laws.stated_after.Goals as goal

pub returns : goal.returns
returns c =
    λ h e legal l s g p. known_after h.opening h.entries e legal.1 l s g p e.event e.verdict legal.0
