-- A count for each element, and an ascending list with repeats: the one gives the other.
use Rattle.dist_types.specs
use Rattle.std.specs.Prelude.{Bool, cond, false, length, List, replicate, suc, true, zero, ℕ, []}
use Rattle.std.specs.Prelude.{◌++◌, ◌+◌, ◌<◌, ◌||◌, ◌∷◌, ◌≡◌, ◌≤◌}
use Rattle.std.proofs.Common.{ap, arith, length-append, refl, sym, ◌∙◌}
use Rattle.std.specs.declared.cmp.Ordering.{Ordering}
use Rattle.std.specs.declared.cmp.Ordering.TheVariants.{Equal, Greater, Less}
use Rattle.std.specs.Ordering.{is_gt, ordering_reverse}
use Rattle.std.specs.List.{AllByRecursion}
use Rattle.std.specs.Bool.{Decides}
use Rattle.std.specs.Cmp.{IsTotalOrder}
use Rattle.std.proofs.lemmas.Cmp.{tied_itself}
use Rattle.std.proofs.lemmas.List.{length-replicate}
use specs.Listing.{ascending, Ascends, IsListing, listing, occurrences, placed, Rises, spread}
use specs.Listing.{stands_in, total}
use Rattle.dist_types.proofs.Totals.{how_many_append, how_many_replicate}

module _ {A : Type 0} (P : A → Type 0) where
  pub all_append : (xs ys : List A) → AllByRecursion P xs → AllByRecursion P ys
      → AllByRecursion P (xs ++ ys)
  all_append [] ys a b = b
  all_append (x ∷ xs) ys a b = (a.0, all_append xs ys a.1 b)

  all_replicate : (x : A) (n : ℕ) → P x → AllByRecursion P (replicate n x)
  all_replicate x zero p = tt
  all_replicate x (suc n) p = (p, all_replicate x n p)

module _ {E A : Type 0} (R : A → A → Ordering) (order : IsTotalOrder R) (key : E → A)
    (times : E → ℕ) where
  not_above_spread : (x : A) (es : List E) → AllByRecursion (λ e. R x (key e) ≡ Less) es
      → AllByRecursion (λ y. is_gt (R x y) ≡ false) (spread key times es)
  not_above_spread x [] b = tt
  not_above_spread x (e ∷ es) b =
      all_append (λ y. is_gt (R x y) ≡ false) (replicate (times e) (key e)) (spread key times es)
      (all_replicate (λ y. is_gt (R x y) ≡ false) (key e) (times e) (ap is_gt b.0))
      (not_above_spread x es b.1)

  replicate_ascends : (x : A) (n : ℕ) (ys : List A) → AllByRecursion (λ y. is_gt (R x y) ≡ false) ys
      → Ascends R ys → Ascends R (replicate n x ++ ys)
  replicate_ascends x zero ys b a = a
  replicate_ascends x (suc n) ys b a = (
    all_append (λ y. is_gt (R x y) ≡ false) (replicate n x) ys
        (all_replicate (λ y. is_gt (R x y) ≡ false) x n (ap is_gt (tied_itself order x))) b,
    replicate_ascends x n ys b a,
  )

  -- repeats of rising keys ascend
  pub spread_ascends : (es : List E) → Rises (λ e d. R (key e) (key d)) es
      → Ascends R (spread key times es)
  spread_ascends [] r = tt
  spread_ascends (e ∷ es) r = replicate_ascends (key e) (times e) (spread key times es)
      (not_above_spread (key e) es r.0) (spread_ascends es r.1)

-- each stands as often as its entries say
pub spread_counts : {E A : Type 0} (alike : A → A → Bool) (key : E → A) (times : E
    → ℕ) (x : A) (es : List E) → occurrences alike x (spread key times es) ≡ total (λ e.
    cond (alike (key e) x) (times e) 0) es
spread_counts alike key times x [] = refl
spread_counts alike key times x (e ∷ es) =
    grind (
      arith,
      how_many_append (λ y. alike y x) (replicate (times e) (key e)) (spread key times es),
      how_many_replicate (λ y. alike y x) (times e) (key e),
      spread_counts alike key times x es,
    )

pub length-spread : {E A : Type 0} (key : E → A) (times : E → ℕ) (es : List E)
    → length (spread key times es) ≡ total times es
length-spread key times [] = refl
length-spread key times (e ∷ es) =
    omega (
      arith,
      length-spread key times es,
      length-replicate (times e) (key e),
      length-append (replicate (times e) (key e)) (spread key times es),
    )

module _ {A : Type 0} (R : A → A → Ordering) (alike : A → A → Bool) (order : IsTotalOrder R)
    (exact : (x y : A) → R x y ≡ Equal → x ≡ y)
    (decides : (x y : A) → Decides (alike x y) (x ≡ y)) where
  unlike : (x y : A) → R x y ≡ Less → alike y x ≡ false
  unlike x y l = grind (arith, decides y x, tied_itself order x)

  less_from : (x y z : A) → R x y ≡ Less → is_gt (R y z) ≡ false → R x z ≡ Less
  less_from x y z l n = grind (arith, order.trans x y z l, exact y z)

  -- a list whose first is above x has no x
  absent_below : (x y : A) (ys : List A) → R x y ≡ Less
      → AllByRecursion (λ z. is_gt (R y z) ≡ false) ys → occurrences alike x (y ∷ ys) ≡ 0
  absent_below x y [] l b = grind (arith, unlike x y l)
  absent_below x y (z ∷ zs) l b =
      grind (arith, absent_below x y zs l b.1, unlike x y l, unlike x z (less_from x y z l b.0))

  flip : (x y : A) → R x y ≡ Greater → R y x ≡ Less
  flip x y g = order.antisymm y x ∙ ap ordering_reverse g

  -- an ascending list is known by how often each stands in it
  pub same_ascending : (xs ys : List A) → Ascends R xs → Ascends R ys
      → ((x : A) → occurrences alike x xs ≡ occurrences alike x ys) → xs ≡ ys
  same_ascending [] [] ax ay m = refl
  same_ascending [] (y ∷ ys) ax ay m = absurd (grind (arith, m y, decides y y))
  same_ascending (x ∷ xs) [] ax ay m = absurd (grind (arith, m x, decides x x))
  same_ascending (x ∷ xs) (y ∷ ys) ax ay m = elim (R x y) as (λ o. R x y ≡ o → x ∷ xs ≡ y ∷ ys) [
    | Less ↦ λ e. absurd (grind (arith, m x, decides x x, absent_below x y ys e ay.0))
    | Greater ↦ λ e. absurd (grind (arith, m y, decides y y, absent_below y x xs (flip x y e) ax.0))
    | Equal ↦ λ e. let first : x ≡ y = exact x y e in let tail : xs ≡ ys =
        same_ascending xs ys ax.1 ay.1 (λ z. grind (arith, m z)) in λ i. first i ∷ tail i
  ] refl

  -- so there is one listing of a count
  pub one_listing : (count : A → ℕ) (xs ys : List A) → IsListing R alike count xs
      → IsListing R alike count ys → xs ≡ ys
  one_listing count xs ys a b = same_ascending xs ys a.ascends b.ascends
      (λ x. a.counts x ∙ sym (b.counts x))

  above_trans : (x y : A) (ys : List A) → R x y ≡ Less → AllByRecursion (λ z. R y z ≡ Less) ys
      → AllByRecursion (λ z. R x z ≡ Less) ys
  above_trans x y [] l b = tt
  above_trans x y (z ∷ zs) l b = (order.trans x y z l b.0, above_trans x y zs l b.1)

  placed_above : (z x : A) (ys : List A) → R z x ≡ Less → AllByRecursion (λ y. R z y ≡ Less) ys
      → AllByRecursion (λ y. R z y ≡ Less) (placed R x ys)
  placed_above z x [] l b = (l, tt)
  placed_above z x (y ∷ ys) l b = grind (arith, placed_above z x ys l b.1)

  placed_rises : (x : A) (ys : List A) → Rises R ys → Rises R (placed R x ys)
  placed_rises x [] r = (tt, tt)
  placed_rises x (y ∷ ys) r =
      grind (arith, above_trans x y ys, placed_above y x ys, flip x y, placed_rises x ys r.1)

  pub ascending_rises : (xs : List A) → Rises R (ascending R xs)
  ascending_rises [] = tt
  ascending_rises (x ∷ xs) = placed_rises x (ascending R xs) (ascending_rises xs)

  placed_stands : (q x : A) (ys : List A)
      → stands_in alike q (placed R x ys) ≡ (alike x q || stands_in alike q ys)
  placed_stands q x [] = refl
  placed_stands q x (y ∷ ys) = grind (arith, placed_stands q x ys, exact x y)

  pub ascending_stands : (q : A) (xs : List A)
      → stands_in alike q (ascending R xs) ≡ stands_in alike q xs
  ascending_stands q [] = refl
  ascending_stands q (x ∷ xs) =
      grind (arith, placed_stands q x (ascending R xs), ascending_stands q xs)

  none_above : (x q : A) (ys : List A) → alike x q ≡ true → AllByRecursion (λ y. R x y ≡ Less) ys
      → stands_in alike q ys ≡ false
  none_above x q [] e a = refl
  none_above x q (y ∷ ys) e a =
      grind (arith, none_above x q ys e a.1, (decides x q).0 e, unlike x y a.0)

  -- over elements that rise, the sum of what one of them has
  pub one_of_many : (value : A → ℕ) (q : A) (xs : List A) → Rises R xs
      → total (λ x. cond (alike x q) (value x) 0) xs ≡ cond (stands_in alike q xs) (value q) 0
  one_of_many value q [] r = refl
  one_of_many value q (x ∷ xs) r = let none : alike x q ≡ true → stands_in alike q xs ≡ false =
      λ e. none_above x q xs e r.0 in grind (arith, one_of_many value q xs r.1, (decides x q).0)

  -- the listing is one, where all that are counted are named
  pub listing_counts : (count : A → ℕ) (named : List A) → ((x : A) → 0 < count x
      → stands_in alike x named ≡ true) → IsListing R alike count (listing R count named)
  listing_counts count named h = record {
    ascends = spread_ascends R order (λ x. x) count (ascending R named) (ascending_rises named);
    counts = λ x.
        grind (
          arith,
          spread_counts alike (λ y. y) count x (ascending R named),
          one_of_many count x (ascending R named) (ascending_rises named),
          ascending_stands x named,
          h x,
        );
  }

  -- a listing is what the count makes of all that may be in it
  pub listing_is : (count : A → ℕ) (xs named : List A) → IsListing R alike count xs
      → ((x : A) → 0 < count x → stands_in alike x named ≡ true) → xs ≡ listing R count named
  listing_is count xs named a h = one_listing count xs (listing R count named) a
      (listing_counts count named h)

  -- rising lists in which the same stand are the same
  pub same_rising : (xs ys : List A) → Rises R xs → Rises R ys
      → ((q : A) → stands_in alike q xs ≡ stands_in alike q ys) → xs ≡ ys
  same_rising xs ys rx ry m = same_ascending xs ys (rising_ascends xs rx) (rising_ascends ys ry)
      (λ q. grind (arith, counted q xs rx, m q, counted q ys ry))
    where
      not_greater : (x : A) (zs : List A) → AllByRecursion (λ z. R x z ≡ Less) zs
          → AllByRecursion (λ z. is_gt (R x z) ≡ false) zs
      not_greater x [] a = tt
      not_greater x (z ∷ zs) a = (ap is_gt a.0, not_greater x zs a.1)

      rising_ascends : (zs : List A) → Rises R zs → Ascends R zs
      rising_ascends [] r = tt
      rising_ascends (z ∷ zs) r = (not_greater z zs r.0, rising_ascends zs r.1)

      counted : (q : A) (zs : List A) → Rises R zs
          → occurrences alike q zs ≡ cond (stands_in alike q zs) 1 0
      counted q [] r = refl
      counted q (z ∷ zs) r = let none : alike z q ≡ true → stands_in alike q zs ≡ false =
          λ e. none_above z q zs e r.0 in grind (arith, counted q zs r.1)

module _ {A : Type 0} (alike : A → A → Bool)
    (decides : (x y : A) → Decides (alike x y) (x ≡ y)) where
  -- the list without the first x
  abbrev without : A → List A → List A
  without x [] = []
  without x (y ∷ ys) = cond (alike y x) ys (y ∷ without x ys)

  length-without : (x : A) (ys : List A) → 0 < occurrences alike x ys
      → length ys ≡ suc (length (without x ys))
  length-without x [] l = absurd (omega arith)
  length-without x (y ∷ ys) l = grind (arith, length-without x ys)

  occurrences-without : (x q : A) (ys : List A) → 0 < occurrences alike x ys
      → occurrences alike q ys ≡ cond (alike x q) 1 0 + occurrences alike q (without x ys)
  occurrences-without x q [] l = absurd (omega arith)
  occurrences-without x q (y ∷ ys) l = grind (arith, occurrences-without x q ys, (decides y x).0)

  -- a list in which none stands more often than in another is no longer
  pub fewer_length : (xs ys : List A) → ((q : A) → occurrences alike q xs ≤ occurrences alike q ys)
      → length xs ≤ length ys
  fewer_length [] ys m = omega arith
  fewer_length (x ∷ xs) ys m =
      let some : 0 < occurrences alike x ys = grind (arith, m x, decides x x) in
      omega (
        arith,
        length-without x ys some,
        fewer_length xs (without x ys) (λ q. grind (arith, m q, occurrences-without x q ys some)),
      )

  -- lists in which each stands as often are of one length
  pub same_length : (xs ys : List A) → ((q : A) → occurrences alike q xs ≡ occurrences alike q ys)
      → length xs ≡ length ys
  same_length xs ys m =
      omega (
        arith,
        fewer_length xs ys (λ q. omega (arith, m q)),
        fewer_length ys xs (λ q. omega (arith, m q)),
      )
