-- Where a search among rising elements ends.
use Rattle.std.proofs.Common.{add-one, ap, arith, false, get_or, length, List, refl, suc, zero}
use Rattle.std.proofs.Common.{ℕ, [], ◌<◌, ◌∙◌, ◌∷◌, ◌≡◌, ◌≤◌}
use Rattle.std.specs.Cmp.{IsTotalOrder}
use Rattle.std.specs.declared.cmp.Ordering.{Ordering}
use Rattle.std.specs.declared.cmp.Ordering.TheVariants.{Equal, Greater, Less}
use Rattle.std.specs.List.{AllByRecursion, HoldsAt, insert}
use Rattle.std.specs.List.Sorted.{IsNonDecreasingBy, IsPartitionPoint, IsSortedBy}
use Rattle.std.specs.Ordering.{is_lt, ordering_index}
use Rattle.std.proofs.lemmas.List.Sorted.{searchable_from_sorted}
use Rattle.dist_types.specs.Listing.{placed, Rises}

all_at : {A : Type 0} (P : A → Type 0) (xs : List A) (i : ℕ) (d : A) → i < length xs
    → AllByRecursion P xs → P (get_or xs i d)
all_at P [] i d lt all = absurd (omega (arith, lt))
all_at P (x ∷ xs) zero d lt all = all.0
all_at P (x ∷ xs) (suc i) d lt all = all_at P xs i d (omega (arith, lt)) all.1

module _ {A : Type 0} {cmp : A → A → Ordering} (order : IsTotalOrder cmp) (x : A) where
  rising_next : (xs : List A) → Rises cmp xs → (k : ℕ) (d : A) → suc k < length xs
      → is_lt (cmp (get_or xs (suc k) d) (get_or xs k d)) ≡ false
  rising_next [] r k d h = grind arith
  rising_next (y ∷ []) r k d h = grind arith
  rising_next (y ∷ z ∷ ys) r zero d h = grind (arith, order.antisymm)
  rising_next (y ∷ z ∷ ys) r (suc k) d h = rising_next (z ∷ ys) r.1 k d (omega (arith, h))

  rising_sorted : (xs : List A) → Rises cmp xs → IsSortedBy (λ y z. is_lt (cmp y z)) xs
  rising_sorted xs r k d l h = ap (λ n. is_lt (cmp (get_or xs n d) (get_or xs k d))) (add-one k)
      ∙ rising_next xs r k d (omega (arith, h))

  -- what rises can be searched
  pub searchable : (xs : List A) → Rises cmp xs
      → IsNonDecreasingBy (λ y. ordering_index (cmp y x)) xs
  searchable xs r = searchable_from_sorted order (λ y. y) xs x (rising_sorted xs r)

  -- one that is there isn't put there again
  pub found_placed : (xs : List A) (i : ℕ) → i < length xs → HoldsAt (λ y. cmp y x ≡ Equal) xs i
      → Rises cmp xs → placed cmp x xs ≡ xs
  found_placed [] i lt at r = absurd (omega (arith, lt))
  found_placed (y ∷ ys) zero lt at r = grind (arith, order.antisymm x y, at y)
  found_placed (y ∷ ys) (suc i) lt at r =
      let z = get_or ys i y in
      let above : cmp y z ≡ Less = all_at (λ w. cmp y w ≡ Less) ys i y (omega (arith, lt)) r.0 in
      grind (
        arith,
        above,
        order.antisymm z y,
        order.congr z x y (at y),
        found_placed ys i (omega (arith, lt)) at r.1,
      )

  -- and else it goes where the search ended
  pub gap_placed : (xs : List A) (i : ℕ) → i ≤ length xs
      → IsPartitionPoint (λ y. cmp y x ≡ Less) (λ y. cmp y x ≡ Greater) xs i
      → placed cmp x xs ≡ insert xs i x
  gap_placed [] zero l p = refl
  gap_placed [] (suc i) l p = absurd (omega (arith, l))
  gap_placed (y ∷ ys) zero l p =
      grind (arith, order.antisymm x y, p.1 0 y (omega arith) (omega arith))
  gap_placed (y ∷ ys) (suc i) l p = grind (
    arith,
    order.antisymm x y,
    p.0 0 y (omega arith) (omega arith),
    gap_placed ys i (omega (arith, l)) (
      (λ k d m h. p.0 (suc k) d (omega arith) (omega (arith, h))),
      (λ k d m h. p.1 (suc k) d (omega (arith, m)) (omega (arith, h))),
    ),
  )
