-- Elements that rise by a key: where a key is among them, and one more of them or one less.
use Rattle.scope_core.proofs.Words
use Words.{add-one, all_from, AllByRecursion, ap, arith, Err, false, get_or, Greater, IfErr, insert}
use Words.{is_lt, IsBinarySearchResult, IsPartitionPoint, IsSortedBy, IsTotalOrder, length, Less}
use Words.{List, Ok, Ordering, remove, Result, Rises, searchable_from_sorted, suc, zero, [], ℕ, ◌<◌}
use Words.{◌∙◌, ◌∷◌, ◌≡◌, ◌≤◌}

module _ {A : Type 0} (P : A → Type 0) where
  pub all_insert : (xs : List A) (i : ℕ) (y : A) → P y → AllByRecursion P xs
      → AllByRecursion P (insert xs i y)
  all_insert xs zero y p a = (p, a)
  all_insert [] (suc i) y p a = (p, tt)
  all_insert (x ∷ xs) (suc i) y p a = (a.0, all_insert xs i y p a.1)

  pub all_remove : (xs : List A) (i : ℕ) → AllByRecursion P xs → AllByRecursion P (remove xs i)
  all_remove [] zero a = tt
  all_remove [] (suc i) a = tt
  all_remove (x ∷ xs) zero a = a.1
  all_remove (x ∷ xs) (suc i) a = (a.0, all_remove xs i a.1)

pub rises_without : {A : Type 0} (R : A → A → Ordering) (xs : List A) (i : ℕ) → Rises R xs
    → Rises R (remove xs i)
rises_without R [] zero r = tt
rises_without R [] (suc i) r = tt
rises_without R (x ∷ xs) zero r = r.1
rises_without R (x ∷ xs) (suc i) r = grind (arith, rises_without R xs i r.1, all_remove)

module _ {A K : Type 0} {cmp : K → K → Ordering} (order : IsTotalOrder cmp) (key : A → K) where
  -- what rises can be searched
  rising_next : (xs : List A) → Rises (λ x y. cmp (key x) (key y)) xs → (k : ℕ) (d : A)
      → suc k < length xs → is_lt (cmp (key (get_or xs (suc k) d)) (key (get_or xs k d))) ≡ false
  rising_next [] r k d h = grind arith
  rising_next (x ∷ []) r k d h = grind arith
  rising_next (x ∷ y ∷ ys) r zero d h = grind arith
  rising_next (x ∷ y ∷ ys) r (suc k) d h = rising_next (y ∷ ys) r.1 k d (omega arith)

  rising_sorted : (xs : List A) → Rises (λ x y. cmp (key x) (key y)) xs
      → IsSortedBy (λ x y. is_lt (cmp (key x) (key y))) xs
  rising_sorted xs r k d l h =
      ap (λ n. is_lt (cmp (key (get_or xs n d)) (key (get_or xs k d)))) (add-one k)
      ∙ rising_next xs r k d (omega arith)

  -- a search that finds nothing answers where the key goes
  pub gap_in : (xs : List A) (k : K) (r : Result ℕ ℕ) → Rises (λ x y. cmp (key x) (key y)) xs
      → IsBinarySearchResult (λ x. cmp (key x) k) xs r
      → IfErr r (IsPartitionPoint (λ x. cmp (key x) k ≡ Less) (λ x. cmp (key x) k ≡ Greater) xs)
  gap_in xs k (Ok i) r h = tt
  gap_in xs k (Err i) r h = h (searchable_from_sorted order key xs k (rising_sorted xs r))

  -- and one that is put there leaves them rising
  pub rises_with : (xs : List A) (i : ℕ) (x : A) → i ≤ length xs
      → Rises (λ x y. cmp (key x) (key y)) xs
      → IsPartitionPoint (λ y. cmp (key y) (key x) ≡ Less) (λ y. cmp (key y) (key x) ≡ Greater) xs i
      → Rises (λ x y. cmp (key x) (key y)) (insert xs i x)
  rises_with xs zero x l r p = grind (arith, all_from)
  rises_with [] (suc i) x l r p = grind arith
  rises_with (y ∷ ys) (suc i) x l r p = (
    all_insert _ ys i x (p.0 0 y (omega arith) (omega arith)) r.0,
    rises_with ys i x (omega arith) r.1 (
      (λ k d m h. p.0 (suc k) d (omega arith) (omega arith)),
      (λ k d m h. p.1 (suc k) d (omega arith) (omega arith)),
    ),
  )
