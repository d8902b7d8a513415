-- What stands behind the code of an answer.
use Rattle.std.proofs.Common.{ap, List, sym, ℕ, [], ◌∙◌, ◌∷◌, ◌≡◌}
use Rattle.epmd.specs.Port.{Behind, Port, SpellsPort}

abbrev behind_two : List ℕ → List ℕ
behind_two (a ∷ (b ∷ rest)) = rest
behind_two bytes = []

-- an answer that spells a node has just that behind its code
pub behind_of : {bytes rest : List ℕ} (port : Port) → bytes ≡ 119 ∷ 0 ∷ rest
    → SpellsPort bytes port → Behind rest port
behind_of port is s =
    record { fits = s.fits; extra = s.extra; is = ap behind_two (sym is ∙ s.is) }
