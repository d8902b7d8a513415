-- Entries in the order of their keys: what is found at a key, and one entry more or one less.
use Rattle.scope_core.proofs.Words
use Words.{AllByRecursion, arith, cond, eq_by_cmp, Equal, Err, get_or, Greater, HoldsAt, IfOk}
use Words.{insert, is_eq, is_lt, is_member, is_some, IsBinarySearchResult, IsPartitionPoint}
use Words.{IsTotalOrder, keys_of, length, Less, List, lookup, None, Ok, Option, Ordering, refl}
use Words.{remove, Result, Rises, slice_set, Some, subst, suc, sym, true, zero, [], ℕ, ◌<◌, ◌∷◌}
use Words.{◌≡◌, ◌≤◌}
use Rattle.std.specs.List.Sorted.{IsStrictlySortedBy}

module _ {K V : Type 0} (cmp : K → K → Ordering) where
  keys_above : (k : K) (es : List (K × V)) → AllByRecursion (λ e. cmp k e.0 ≡ Less) es
      → AllByRecursion (λ q. cmp k q ≡ Less) (keys_of es)
  keys_above k [] a = tt
  keys_above k (e ∷ es) a = (a.0, keys_above k es a.1)

  -- the keys rise where the entries do by them
  pub keys_sorted : (es : List (K × V)) → Rises (λ x y. cmp x.0 y.0) es
      → IsStrictlySortedBy cmp (keys_of es)
  unfolding IsStrictlySortedBy
  keys_sorted [] r = tt
  keys_sorted (e ∷ es) r = (keys_above e.0 es r.0, keys_sorted es r.1)

-- what a search found
pub found_in : {A : Type 0} (ord : A → Ordering) (xs : List A) (r : Result ℕ ℕ)
    → IsBinarySearchResult ord xs r → IfOk r (HoldsAt (λ x. ord x ≡ Equal) xs)
found_in ord xs (Ok i) h = h
found_in ord xs (Err i) h = tt

less_from : (o : Ordering) → is_lt o ≡ true → o ≡ Less
less_from o e = grind arith

module _ {K V : Type 0} {cmp : K → K → Ordering} (order : IsTotalOrder cmp) where
  abbrev pub value_at : List (K × V) → K → Option V
  value_at es k = lookup (λ q. is_eq (cmp k q)) es

  -- above a key there is nothing at it, nor at one that is equal
  above_none : (k q : K) (es : List (K × V)) → cmp q k ≡ Equal
      → AllByRecursion (λ e. cmp k e.0 ≡ Less) es → value_at es q ≡ None
  above_none k q [] h a = refl
  above_none k q (e ∷ es) h a = grind (arith, above_none k q es h a.1, order.congr)

  -- without the first entry
  pub value_behind : (e : K × V) (es : List (K × V)) (q : K) → Rises (λ x y. cmp x.0 y.0) (e ∷ es)
      → value_at es q ≡ cond (eq_by_cmp cmp e.0 q) None (value_at (e ∷ es) q)
  value_behind e es q r = grind (arith, above_none e.0 q es, order.antisymm)

  -- a key has a value where it is one of the keys
  pub is_there : (es : List (K × V)) (k : K)
      → is_some (value_at es k) ≡ is_member (eq_by_cmp cmp) (keys_of es) k
  is_there [] k = refl
  is_there (e ∷ es) k = grind (arith, is_there es k, order.antisymm)

  below_at : (k : K) (es : List (K × V)) (i : ℕ) (d : K × V) → i < length es
      → AllByRecursion (λ x. cmp k x.0 ≡ Less) es → cmp k (get_or es i d).0 ≡ Less
  below_at k [] i d l a = grind arith
  below_at k (e ∷ es) zero d l a = a.0
  below_at k (e ∷ es) (suc i) d l a = below_at k es i d (omega arith) a.1

  -- what stands where the key was found
  pub found_at : (k : K) (es : List (K × V)) (i : ℕ) (d : K × V) → i < length es
      → Rises (λ x y. cmp x.0 y.0) es → HoldsAt (λ e. cmp e.0 k ≡ Equal) es i
      → value_at es k ≡ Some (get_or es i d).1
  found_at k [] i d l r h = grind arith
  found_at k (e ∷ es) zero d l r h = grind (arith, h d, order.antisymm)
  found_at k (e ∷ es) (suc i) d l r h =
      let rest = found_at k es i d (omega arith) r.1 (λ x. h x) in
      let above = below_at e.0 es i d (omega arith) r.0 in
      grind (arith, order.antisymm, order.congr, h d)

  -- nothing is at a key that would go between two others
  pub gap_none : (k q : K) (es : List (K × V)) (i : ℕ) → i ≤ length es → cmp q k ≡ Equal
      → IsPartitionPoint (λ e. cmp e.0 k ≡ Less) (λ e. cmp e.0 k ≡ Greater) es i
      → value_at es q ≡ None
  gap_none k q [] i l h p = refl
  gap_none k q (e ∷ es) zero l h p =
      let rest = gap_none k q es 0 (omega arith)
      h (λ j d a b. grind arith, λ j d a b. p.1 (suc j) d (omega arith) (omega arith)) in
      let first = p.1 0 e (omega arith) (omega arith) in
      grind (arith, order.antisymm, order.congr)
  gap_none k q (e ∷ es) (suc i) l h p =
      let rest = gap_none k q es i (omega arith)
      h (
        λ j d a b. p.0 (suc j) d (omega arith) (omega arith),
        λ j d a b. p.1 (suc j) d
            (omega arith) (omega arith),
      ) in
      let first = p.0 0 e (omega arith) (omega arith) in
      grind (arith, order.antisymm, order.congr)

  -- where it isn't found, nothing is taken
  pub value_absent : (es : List (K × V)) (i : ℕ) (k q : K) → i ≤ length es
      → IsPartitionPoint (λ e. cmp e.0 k ≡ Less) (λ e. cmp e.0 k ≡ Greater) es i
      → value_at es q ≡ cond (eq_by_cmp cmp k q) None (value_at es q)
  value_absent es i k q l p = grind (arith, order.antisymm, gap_none k q es i l)

  -- with one entry more, where there was none at its key
  pub value_with : (es : List (K × V)) (i : ℕ) (k q : K) (v : V) → i ≤ length es
      → IsPartitionPoint (λ e. cmp e.0 k ≡ Less) (λ e. cmp e.0 k ≡ Greater) es i
      → value_at (insert es i (k, v)) q ≡ cond (eq_by_cmp cmp k q) (Some v) (value_at es q)
  value_with es zero k q v l p = grind (arith, order.antisymm)
  value_with [] (suc i) k q v l p = grind arith
  value_with (e ∷ es) (suc i) k q v l p =
      let rest = value_with es i k q v (omega arith) (
        λ j d a b. p.0 (suc j) d (omega arith) (omega arith),
        λ j d a b. p.1 (suc j) d
            (omega arith) (omega arith),
      ) in
      let first = p.0 0 e (omega arith) (omega arith) in
      grind (arith, order.antisymm, order.congr)

  -- with one entry less
  pub value_without : (es : List (K × V)) (i : ℕ) (k q : K) → i < length es
      → Rises (λ x y. cmp x.0 y.0) es → HoldsAt (λ e. cmp e.0 k ≡ Equal) es i
      → value_at (remove es i) q ≡ cond (eq_by_cmp cmp k q) None (value_at es q)
  value_without [] i k q l r h = grind arith
  value_without (e ∷ es) zero k q l r h =
      grind (arith, above_none e.0 q es, h e, order.antisymm, order.congr)
  value_without (e ∷ es) (suc i) k q l r h =
      let rest = value_without es i k q (omega arith) r.1 (λ d. h d) in
      let tail : value_at (remove (e ∷ es) (suc i)) q
      ≡ cond (is_eq (cmp q e.0)) (Some e.1) (value_at (remove es i) q) = refl in
      let above = below_at e.0 es i e (omega arith) r.0 in
      grind (arith, order.antisymm, order.congr, h e)

  above_set : (k : K) (es : List (K × V)) (i : ℕ) (e : K × V) (w : V) → e ≡ get_or es i e
      → AllByRecursion (λ x. cmp k x.0 ≡ Less) es
      → AllByRecursion (λ x. cmp k x.0 ≡ Less) (slice_set es i (e.0, w))
  above_set k [] i e w h a = tt
  above_set k (x ∷ es) zero e w h a = (subst (λ y. cmp k y.0 ≡ Less) (sym h) a.0, a.1)
  above_set k (x ∷ es) (suc i) e w h a = (a.0, above_set k es i e w h a.1)

  -- with another value for an entry
  pub rises_set : (es : List (K × V)) (i : ℕ) (e : K × V) (w : V) → e ≡ get_or es i e
      → Rises (λ x y. cmp x.0 y.0) es → Rises (λ x y. cmp x.0 y.0) (slice_set es i (e.0, w))
  rises_set [] i e w h r = tt
  rises_set (x ∷ es) zero e w h r =
      subst (λ y. Rises (λ x y. cmp x.0 y.0) ((y.0, w) ∷ es)) (sym h) (r.0, r.1)
  rises_set (x ∷ es) (suc i) e w h r = (above_set x.0 es i e w h r.0, rises_set es i e w h r.1)

  pub value_set : (es : List (K × V)) (i : ℕ) (e : K × V) (w : V) (k q : K) → i < length es
      → e ≡ get_or es i e → Rises (λ x y. cmp x.0 y.0) es → HoldsAt (λ e. cmp e.0 k ≡ Equal) es i
      → value_at (slice_set es i (e.0, w)) q ≡ cond (eq_by_cmp cmp k q) (Some w) (value_at es q)
  value_set [] i e w k q l h r is = grind arith
  value_set (x ∷ es) zero e w k q l h r is =
      let here = subst (λ y. cmp y.0 k ≡ Equal) (sym h) (is e) in
      grind (arith, order.antisymm, order.congr)
  value_set (x ∷ es) (suc i) e w k q l h r is =
      let rest = value_set es i e w k q (omega arith) h r.1 (λ d. is d) in
      let tail : value_at (slice_set (x ∷ es) (suc i) (e.0, w)) q
      ≡ cond (is_eq (cmp q x.0)) (Some x.1) (value_at (slice_set es i (e.0, w)) q) = refl in
      let above = below_at x.0 es i e (omega arith) r.0 in
      grind (arith, order.antisymm, order.congr, is e)

  above_next : (k q : K) (es : List (K × V)) → cmp k q ≡ Less
      → AllByRecursion (λ x. cmp q x.0 ≡ Less) es → AllByRecursion (λ x. cmp k x.0 ≡ Less) es
  above_next k q [] l a = tt
  above_next k q (e ∷ es) l a = (order.trans k q e.0 l a.0, above_next k q es l a.1)

  -- where each key is below the next, all rise
  pub adjacent_rise : (es : List (K × V))
      → ((i : ℕ) (d : K × V) → suc i < length es
      → is_lt (cmp (get_or es i d).0 (get_or es (suc i) d).0) ≡ true)
      → Rises (λ x y. cmp x.0 y.0) es
  adjacent_rise [] h = tt
  adjacent_rise (e ∷ []) h = (tt, tt)
  adjacent_rise (e ∷ f ∷ es) h =
      let rest = adjacent_rise (f ∷ es) (λ i d l. h (suc i) d (omega arith)) in
      let below : cmp e.0 f.0 ≡ Less = less_from _ (h 0 e (omega arith)) in
      ((below, above_next e.0 f.0 es below rest.0), rest)
