-- An element behind others that rise.
use Rattle.scope_core.proofs.Words
use Words.{AllByRecursion, ap, arith, IsTotalOrder, length, length_push, Less, List, Ordering, refl}
use Words.{Rises, slice_get, Some, subst, suc, [], ◌++◌, ◌-◌, ◌∙◌, ◌∷◌, ◌≡◌}

module _ {A K : Type 0} {cmp : K → K → Ordering} (order : IsTotalOrder cmp) (key : A → K) where
  -- where the last is below a key, all are
  pub all_below : (k : K) (xs : List A) (last : A) → Rises (λ x y. cmp (key x) (key y)) xs
      → slice_get xs (length xs - 1) ≡ Some last → cmp (key last) k ≡ Less
      → AllByRecursion (λ x. cmp (key x) k ≡ Less) xs
  all_below k [] last r e l = tt
  all_below k (x ∷ []) last r e l = grind arith
  all_below k (x ∷ y ∷ ys) last r e l =
      let n : length (x ∷ y ∷ ys) - 1 ≡ suc (length (y ∷ ys) - 1) = omega arith in
      let rest =
      all_below k (y ∷ ys) last r.1 (subst (λ m. slice_get (x ∷ y ∷ ys) m ≡ Some last) n e) l in
      (order.trans (key x) (key y) k r.0.0 rest.0, rest)

module _ {A : Type 0} (R : A → A → Ordering) where
  all_push : (x y : A) (xs : List A) → AllByRecursion (λ z. R x z ≡ Less) xs → R x y ≡ Less
      → AllByRecursion (λ z. R x z ≡ Less) (xs ++ y ∷ [])
  all_push x y [] a l = (l, tt)
  all_push x y (z ∷ zs) a l = (a.0, all_push x y zs a.1 l)

  pub rises_push : (xs : List A) (y : A) → Rises R xs → AllByRecursion (λ x. R x y ≡ Less) xs
      → Rises R (xs ++ y ∷ [])
  rises_push [] y r a = (tt, tt)
  rises_push (x ∷ xs) y r a = (all_push x y xs r.0 a.0, rises_push xs y r.1 a.1)

pub last_pushed : {A : Type 0} (xs : List A) (x : A)
    → slice_get (xs ++ x ∷ []) (length (xs ++ x ∷ []) - 1) ≡ Some x
last_pushed xs x =
    let n : length (xs ++ x ∷ []) - 1 ≡ length xs = omega (arith, length_push) in
    ap (slice_get (xs ++ x ∷ [])) n ∙ at xs
  where
    at : (ys : List _) → slice_get (ys ++ x ∷ []) (length ys) ≡ Some x
    at [] = refl
    at (y ∷ ys) = at ys
