-- Elements that pass a test, and their places.
use Rattle.node_core.proofs
use proofs.Words.{AllByRecursion, arith, Bool, false, find, is_some, List, list_any, lt-ltb}
use proofs.Words.{ltb-false, ltb-true, map, no_value, None, position, refl, Some, sym, true, []}
use proofs.Words.{◌∷◌, ◌≡◌}

-- the value in an option
pub some_is : {A : Type 0} {x y : A} → Some x ≡ Some y → x ≡ y
some_is q = cc

pub not_so : (b : Bool) → (b ≡ true → ⊥) → b ≡ false
not_so true f = absurd (f refl)
not_so false f = refl

module _ {A : Type 0} (test : A → Bool) where
  -- what is found passes the test, and is as all are
  pub found_in : (P : A → Type 0) (xs : List A) → AllByRecursion P xs → (x : A)
      → find test xs ≡ Some x → (test x ≡ true) × P x
  found_in P [] all x q = no_value (sym q)
  found_in P (y ∷ ys) all x q = grind (arith, found_in P ys all.1 x)

  pub found_passes : (xs : List A) (x : A) → find test xs ≡ Some x → test x ≡ true
  found_passes [] x q = no_value (sym q)
  found_passes (y ∷ ys) x q = grind (arith, found_passes ys x)

  -- where nothing is found, nothing passes
  pub none_found : (xs : List A) → find test xs ≡ None → list_any test xs ≡ false
  none_found [] q = refl
  none_found (y ∷ ys) q = grind (arith, none_found ys)

  -- where one is found, one passes
  pub some_found : (xs : List A) (x : A) → find test xs ≡ Some x → list_any test xs ≡ true
  some_found [] x q = no_value (sym q)
  some_found (y ∷ ys) x q = grind (arith, some_found ys x)

  -- one passes where one is found
  pub any_found : (xs : List A) → list_any test xs ≡ is_some (find test xs)
  any_found [] = refl
  any_found (y ∷ ys) = grind (arith, any_found ys)

-- a test of a value of the elements
pub any_map : {A B : Type 0} (test : B → Bool) (f : A → B) (xs : List A)
    → list_any test (map f xs) ≡ list_any (λ x. test (f x)) xs
any_map test f [] = refl
any_map test f (x ∷ xs) = grind (arith, any_map test f xs)

-- ---- places

module _ {A : Type 0} (test : A → Bool) where
  -- a place is found where one passes
  pub place_found : (xs : List A) → is_some (position test xs) ≡ list_any test xs
  place_found [] = refl
  place_found (x ∷ xs) = grind (arith, place_found xs, lt-ltb, ltb-true, ltb-false)
