-- A text without a quote and a backslash stands for itself.
use Rattle.std.proofs.Common.{arith, eqb, false, List, refl, ℕ, [], ◌∷◌, ◌≡◌}
use Rattle.std.specs.List.{list_any}
use Rattle.pg_archive.specs.Texts.{escaped}

pub plain : (text : List ℕ) → list_any (λ y. eqb y 34) text ≡ false
    → list_any (λ y. eqb y 92) text ≡ false → escaped text ≡ text
plain [] quotes slashes = refl
plain (x ∷ xs) quotes slashes = grind (arith, plain xs)
