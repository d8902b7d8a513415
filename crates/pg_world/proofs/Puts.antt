-- What stands in a list after one element was put.
use Rattle.pg_world.proofs
use proofs.Words.{ap, arith, Bool, changed, eqb-false, eqb-true, false, length, List, no_value}
use proofs.Words.{None, refl, slice_get, slice_set, Some, suc, sym, true, Wire, zero, ℕ, [], ◌++◌}
use proofs.Words.{◌==◌, ◌∙◌, ◌∷◌, ◌≡◌}

module _ {A : Type 0} where
  pub value_of : {x y : A} → Some x ≡ Some y → x ≡ y
  value_of e = cc

  pub get_same : (xs : List A) (i : ℕ) (x y : A) → slice_get xs i ≡ Some y
      → slice_get (slice_set xs i x) i ≡ Some x
  get_same [] i x y e = no_value (sym e)
  get_same (v ∷ xs) zero x y e = refl
  get_same (v ∷ xs) (suc i) x y e = get_same xs i x y e

  pub get_other : (xs : List A) (i : ℕ) (x : A) (k : ℕ) → (k ≡ i → ⊥)
      → slice_get (slice_set xs i x) k ≡ slice_get xs k
  get_other (v ∷ xs) zero x zero apart = absurd (apart refl)
  get_other (v ∷ xs) (suc i) x (suc k) apart = get_other xs i x k (λ e. apart (ap suc e))
  get_other y i x k apart = refl

  -- what stands there stood at its place, or is what was put
  pub data IsFound (xs : List A) (n : ℕ) (x : A) (m : ℕ) (y : A) : Type 0 where
    Kept : (m ≡ n → ⊥) → slice_get xs m ≡ Some y → IsFound xs n x m y
    Put : m ≡ n → x ≡ y → IsFound xs n x m y

  pub found : (xs : List A) (n : ℕ) (x old : A) → slice_get xs n ≡ Some old → (m : ℕ) (y : A)
      → slice_get (slice_set xs n x) m ≡ Some y → IsFound xs n x m y
  found xs n x old there m y q = by (m == n) refl
    where
      by : (b : Bool) → (m == n) ≡ b → IsFound xs n x m y
      by true same = Put (eqb-true m n same) (cc (eqb-true m n same, get_same xs n x old there))
      by false other = Kept (eqb-false m n other)
          (sym (get_other xs n x m (eqb-false m n other)) ∙ q)

  -- so after one more was put at the end
  pub found_last : (xs : List A) (x : A) (m : ℕ) (y : A) → slice_get (xs ++ x ∷ []) m ≡ Some y
      → IsFound xs (length xs) x m y
  found_last [] x zero y e = Put refl (value_of e)
  found_last [] x (suc m) y e = no_value (sym e)
  found_last (v ∷ xs) x zero y e = Kept (λ q. cc) e
  found_last (v ∷ xs) x (suc m) y e = by (found_last xs x m y e)
    where
      by : IsFound xs (length xs) x m y → IsFound (v ∷ xs) (suc (length xs)) x (suc m) y
      by (Kept apart q) = Kept (λ same. apart (omega arith)) q
      by (Put last is) = Put (ap suc last) is

pub changed_is : (xs : List Wire) (n : ℕ) (x : Wire) (f : Wire → Wire) → slice_get xs n ≡ Some x
    → changed n f xs ≡ slice_set xs n (f x)
changed_is xs n x f e =
    ap (λ o. elim o as (λ _. List Wire) [ Some y ↦ slice_set xs n (f y) | None ↦ xs ]) e
