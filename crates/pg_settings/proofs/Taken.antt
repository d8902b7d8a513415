-- The first of a list, and one more.
use Rattle.std.proofs.Common.{append_assoc, arith, drop, drop-cons, get_or, length, length-append}
use Rattle.std.proofs.Common.{List, map, Some, suc, take, zero, ℕ, [], ◌++◌, ◌+◌, ◌<◌, ◌∷◌, ◌≡◌}
use Rattle.std.specs.List.{slice_get}
use Rattle.std.proofs.lemmas.List.{map-append}

module _ {A : Type 0} where
  pub take_more : (xs : List A) (i : ℕ) (x : A) → slice_get xs i ≡ Some x
      → take (i + 1) xs ≡ take i xs ++ x ∷ []
  take_more [] i x is = grind (arith, is)
  take_more (y ∷ ys) zero x is = grind (arith, is)
  take_more (y ∷ ys) (suc i) x is = grind (arith, take_more ys i x is)

  -- and what is said of each
  pub said_more : {B : Type 0} (say : A → B) (xs : List A) (i : ℕ) (x : A) (before old new : List B)
      → slice_get xs i ≡ Some x → old ≡ before ++ map say (take i xs) → new ≡ old ++ say x ∷ []
      → new ≡ before ++ map say (take (i + 1) xs)
  said_more say xs i x before old new at first then = grind (
    arith,
    at,
    first,
    then,
    take_more xs i x at,
    map-append say (take i xs) (x ∷ []),
    append_assoc before (map say (take i xs)) (say x ∷ []),
  )

  -- behind those that were seen stands the one that is seen next
  pub next_stands : (all seen : List A) (x : A) → all ≡ seen ++ drop (length seen) all
      → (length seen < length all) × (x ≡ get_or all (length seen) x)
      → all ≡ seen ++ x ∷ drop (length seen + 1) all
  next_stands all seen x front next =
      grind (arith, front, next.0, next.1, drop-cons all (length seen) x)

  pub seen_more : (all seen : List A) (x : A) → all ≡ seen ++ drop (length seen) all
      → (length seen < length all) × (x ≡ get_or all (length seen) x)
      → all ≡ (seen ++ x ∷ []) ++ drop (length (seen ++ x ∷ [])) all
  seen_more all seen x front next = grind (
    arith,
    next_stands all seen x front next,
    length-append seen (x ∷ []),
    append_assoc seen (x ∷ []) (drop (length seen + 1) all),
  )
