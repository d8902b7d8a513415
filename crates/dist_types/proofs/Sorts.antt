-- What a sort leaves, as a listing.
use Rattle.std.specs.Prelude.{Bool, cond, false, length, List, suc, ℕ, [], ◌<◌, ◌∷◌, ◌≡◌, ◌≤◌}
use Rattle.std.proofs.Common.{ap, arith, get_or, sym, ◌∙◌}
use Rattle.std.specs.declared.cmp.Ordering.{Ordering}
use Rattle.std.specs.Ordering.{is_gt, is_lt, ordering_reverse}
use Rattle.std.specs.Cmp.{IsTotalOrder}
use Rattle.std.specs.List.{AllByRecursion, AllWithin}
use Rattle.std.specs.List.Sorted.{IsPermutation, IsSorted}
use Rattle.std.proofs.lemmas.List.Sorted.{ranks_by, sorted_far, sum_by-IsPermutation}
use Rattle.dist_types.specs.Listing.{Ascends, IsListing, occurrences}
use Rattle.dist_types.proofs.Totals.{how_many_is}

pub all_from : {A : Type 0} (P : A → Type 0) (xs : List A) → AllWithin P xs 0 (length xs)
    → AllByRecursion P xs
all_from P [] a = tt
all_from P (x ∷ xs) a = (
  a 0 x (omega arith) (omega arith),
  all_from P xs (λ k d l h. a (suc k) d (omega arith) (omega arith)),
)

reversed : (o : Ordering) → is_gt (ordering_reverse o) ≡ is_lt o
reversed o = grind arith

ascends_from : {A : Type 0} (R : A → A → Ordering) (xs : List A) → ((i j : ℕ) (d : A) → i ≤ j
    → j < length xs → is_gt (R (get_or xs i d) (get_or xs j d)) ≡ false) → Ascends R xs
ascends_from R [] f = tt
ascends_from R (x ∷ xs) f = (
  all_from (λ y. is_gt (R x y) ≡ false) xs (λ k d l h. f 0 (suc k) d (omega arith) (omega arith)),
  ascends_from R xs (λ i j d l h. f (suc i) (suc j) d (omega arith) (omega arith)),
)

sorted_ascends : {A : Type 0} (R : A → A → Ordering) → IsTotalOrder R → (xs : List A)
    → IsSorted R xs → Ascends R xs
sorted_ascends R order xs s = ascends_from R xs (λ i j d l h.
    ap is_gt (order.antisymm (get_or xs i d) (get_or xs j d))
    ∙ reversed (R (get_or xs j d) (get_or xs i d))
    ∙ sorted_far (λ x y. is_lt (R x y)) (ranks_by order (λ x. x)) xs s i j d l h)

-- a sorted list is the listing of what was there before
pub sorted_listing : {A : Type 0} (R : A → A → Ordering) (alike : A → A → Bool) → IsTotalOrder R
    → (xs ys : List A) → IsPermutation xs ys → IsSorted R ys
    → IsListing R alike (λ x. occurrences alike x xs) ys
sorted_listing R alike order xs ys p s = record {
  ascends = sorted_ascends R order ys s;
  counts = λ x. how_many_is (λ y. alike y x) ys ∙ sum_by-IsPermutation (λ y. cond (alike y x) 1 0)
      xs ys p ∙ sym (how_many_is (λ y. alike y x) xs);
}
