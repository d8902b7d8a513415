-- Sums and counts over lists.
use Rattle.std.specs.Prelude.{Bool, cond, count_by, length, List, replicate, suc, zero, ℕ, [], ◌&&◌}
use Rattle.std.specs.Prelude.{◌++◌, ◌+◌, ◌∷◌, ◌≡◌, ◌≤◌}
use Rattle.std.proofs.Common.{arith, refl}
use Rattle.std.specs.List.{filter, sum_by}
use Rattle.std.proofs.lemmas.List.Recursion.{is_count_by, is_sum_by}
use Rattle.dist_types.specs.Listing.{how_many, total}

pub total_is : {A : Type 0} (f : A → ℕ) (xs : List A) → total f xs ≡ sum_by f xs
total_is f xs = is_sum_by (total f) f refl (λ _ _. refl) xs

pub how_many_is : {A : Type 0} (p : A → Bool) (xs : List A) → how_many p xs ≡ count_by p xs
how_many_is p xs = is_count_by (how_many p) p refl (λ x ys. grind arith) xs

pub how_many_append : {A : Type 0} (p : A → Bool) (xs ys : List A)
    → how_many p (xs ++ ys) ≡ how_many p xs + how_many p ys
how_many_append p [] ys = omega arith
how_many_append p (x ∷ xs) ys = grind (arith, how_many_append p xs ys)

pub how_many_replicate : {A : Type 0} (p : A → Bool) (n : ℕ) (x : A)
    → how_many p (replicate n x) ≡ cond (p x) n 0
how_many_replicate p zero x = grind arith
how_many_replicate p (suc n) x = grind (arith, how_many_replicate p n x)

pub how_many_le : {A : Type 0} (p : A → Bool) (xs : List A) → how_many p xs ≤ length xs
how_many_le p [] = omega arith
how_many_le p (x ∷ xs) = grind (arith, how_many_le p xs)

-- what is filtered away adds nothing
pub total_filter : {A : Type 0} (p test : A → Bool) (f : A → ℕ) (xs : List A)
    → total (λ x. cond (test x) (f x) 0) (filter p xs) ≡ total (λ x. cond (p x && test x) (f x) 0)
    xs
total_filter p test f [] = refl
total_filter p test f (x ∷ xs) = grind (arith, total_filter p test f xs)
