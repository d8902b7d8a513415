-- Where a peer stands among those that are up.
use Rattle.std.proofs.Common.{add-one, ap, arith, Bool, cond, drop, false, get_or, length, List}
use Rattle.std.proofs.Common.{nat_lt, None, not, position, refl, Some, suc, sym, take, true, ℕ, []}
use Rattle.std.proofs.Common.{◌++◌, ◌+◌, ◌<◌, ◌||◌, ◌∙◌, ◌∷◌, ◌≡◌}
use Rattle.std.specs.List.{list_any, position_or_len, prefix_len}
use Rattle.std.proofs.lemmas.Bool.Decides.{nat_tests}
use Rattle.std.proofs.lemmas.List.{take-append-drop}
use Rattle.std.proofs.lemmas.List.Quantifiers.{position-Some}
use Rattle.std.proofs.Math.Seq.{drop-cons}

-- a place is within the list
pub place_within : {X : Type 0} → (p : X → Bool) (xs : List X) (i : ℕ) → position p xs ≡ Some i
    → i < length xs
place_within p [] i found = cc
place_within p (x ∷ xs) i found = (position-Some p (x ∷ xs) i x found).0

none_passes : {X : Type 0} → (p : X → Bool) (xs : List X)
    → nat_lt (position_or_len p xs) (length xs) ≡ false → list_any p xs ≡ false
none_passes p [] none = refl
none_passes p (x ∷ xs) none = by (p x) none (none_passes p xs)
  where
    by : (b : Bool) → nat_lt (cond (not b) (1 + prefix_len (λ y. not (p y)) xs) 0) (suc
        (length xs)) ≡ false → (nat_lt (position_or_len p xs) (length xs) ≡ false
        → list_any p xs ≡ false) → (b || list_any p xs) ≡ false
    by true none rest = grind (arith, nat_tests)
    by false none rest = rest (grind (arith, nat_tests))

-- where there is no place nobody passes
pub no_place : {X : Type 0} → (p : X → Bool) (xs : List X) → position p xs ≡ None
    → list_any p xs ≡ false
no_place p xs none = none_passes p xs (by (nat_lt (position_or_len p xs) (length xs)) none)
  where
    by : (b : Bool) → cond b (Some (position_or_len p xs)) None ≡ None → b ≡ false
    by true none = cc
    by false none = refl

-- a list before, at and behind a place
pub around : {X : Type 0} → (xs : List X) (i : ℕ) (x : X) → i < length xs → x ≡ get_or xs i x
    → xs ≡ take i xs ++ x ∷ drop (i + 1) xs
around xs i x within is = rw add-one (sym (take-append-drop i xs) ∙ ap (λ ys. take i xs ++ ys)
    (drop-cons xs i x within ∙ ap (λ y. y ∷ drop (suc i) xs) (sym is)))
