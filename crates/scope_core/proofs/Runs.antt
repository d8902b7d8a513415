-- The rows of a group stand in a row.
use Rattle.scope_core.proofs.Words
use Words.{AllByRecursion, AllWithin, arith, Bool, false, filter, get_or, length, List, refl, suc}
use Words.{take, true, zero, [], ℕ, ◌<◌, ◌∷◌, ◌≡◌, ◌≤◌}

module _ {A : Type 0} (p : A → Bool) where
  filter_none : (xs : List A) → AllWithin (λ x. p x ≡ false) xs 0 (length xs) → filter p xs ≡ []
  filter_none [] a = refl
  filter_none (x ∷ xs) a =
      grind (arith, a 0 x, filter_none xs (λ k d l h. a (suc k) d (omega arith) (omega arith)))

  -- those up to n are all that pass
  pub filter_takes : (n : ℕ) (xs : List A) → n ≤ length xs → AllWithin (λ x. p x ≡ true) xs 0 n
      → AllWithin (λ x. p x ≡ false) xs n (length xs) → filter p xs ≡ take n xs
  filter_takes zero xs l a b = filter_none xs b
  filter_takes (suc n) [] l a b = refl
  filter_takes (suc n) (x ∷ xs) l a b =
      let front =
      λ (k : ℕ) (d : A) (m : 0 ≤ k) (h : k < n). a (suc k) d (omega arith) (omega arith) in
      let back = λ (k : ℕ) (d : A) (m : n ≤ k) (h : k < length xs).
      b (suc k) d (omega arith) (omega arith) in
      grind (arith, a 0 x, filter_takes n xs (omega arith) front back)

pub all_at : {A : Type 0} (P : A → Type 0) (xs : List A) (k : ℕ) (d : A) → AllByRecursion P xs
    → k < length xs → P (get_or xs k d)
all_at P [] k d a l = grind arith
all_at P (x ∷ xs) zero d a l = a.0
all_at P (x ∷ xs) (suc k) d a l = all_at P xs k d a.1 (omega arith)
