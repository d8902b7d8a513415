-- The places of told rows fall, and each is the place of a frame that came.
use Rattle.frame_laws.proofs
use proofs.Words.{AllByRecursion, arith, Bool, came, cond, delivered, Entry, Falls, false, heard}
use proofs.Words.{length, length-append, List, Opening, refl, tells_rows, told_rows, true, ℕ, []}
use proofs.Words.{◌++◌, ◌+◌, ◌<◌, ◌∷◌, ◌≡◌, ◌≤◌}

lower : (n m : ℕ) → n ≤ m → (xs : List ℕ) → AllByRecursion (λ x. x < n) xs
    → AllByRecursion (λ x. x < m) xs
lower n m le [] all = tt
lower n m le (x ∷ xs) all = grind (arith, lower n m le xs all.1)

pub record AreBelow (n : ℕ) (xs : List ℕ) : Type 0 where
  pub below : AllByRecursion (λ x. x < n) xs
  pub falls : Falls xs

pub told_fall : (o : Opening) (l : ℕ) (s : List ℕ) (es : List Entry)
    → AreBelow (length (delivered l es)) (told_rows o l s es)
told_fall o l s [] = grind arith
told_fall o l s (e ∷ es) = by (heard o l s (e ∷ es)) (tells_rows o l s es e.verdict e.event) refl
    (told_fall o l s es)
  where
    grown : length (delivered l (e ∷ es)) ≡ length (delivered l es) + length (came l e.event)
    grown = grind (arith, length-append)

    by : (b c : Bool) → tells_rows o l s es e.verdict e.event ≡ c
        → AreBelow (length (delivered l es)) (told_rows o l s es)
        → AreBelow (length (delivered l (e ∷ es)))
        (cond b (cond c (length (delivered l es) ∷ []) [] ++ told_rows o l s es) [])
    by false c q before = grind arith
    by true false q before =
        grind (
          arith,
          lower (length (delivered l es)) (length (delivered l (e ∷ es))) (omega (arith, grown))
              (told_rows o l s es) before.below,
        )
    by true true q before = grind (arith, grown, lower)
