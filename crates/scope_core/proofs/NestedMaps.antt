-- One change of an ordered map of small maps, at both keys.
use Rattle.scope_core.proofs.Words
use Words.{ap, arith, Bool, BTreeMap, cond, eq_by_cmp, Equal, find, find_in, found, get, is_eq}
use Words.{is_some, IsTotalOrder, length, List, lookup, Option, Ordering, refl, SmallMap, Some}
use Words.{tied_itself, true, [], ◌&&◌, ◌∷◌, ◌≡◌}

equal_from : (o : Ordering) → is_eq o ≡ true → o ≡ Equal
equal_from o e = grind arith

module _ {A B V : Type 0} {outer : A → A → Ordering} (total : IsTotalOrder outer)
    (inner : B → B → Ordering) where
  -- equal keys have the same value
  get_equal : (m : BTreeMap A (SmallMap B V)) (key a : A) → eq_by_cmp outer key a ≡ true
      → get outer m a ≡ get outer m key
  get_equal m key a e = grind (arith, equal_from)

  -- under the first key there is another map, which has w where it is hit, and else what it had
  pub set_at : (m n : BTreeMap A (SmallMap B V)) (key a : A) (b : B) (hit : Bool) (w : Option V)
      (s : SmallMap B V) (o : Option (SmallMap B V))
      → get outer n a ≡ cond (eq_by_cmp outer key a) o (get outer m a) → Some s ≡ get outer m key
      → found inner o b ≡ cond hit w (find inner s b) → find_in outer inner n a b
      ≡ cond (eq_by_cmp outer key a && hit) w (find_in outer inner m a b)
  set_at m n key a b hit w s o e there is = grind (arith, get_equal)

  -- or it has what it had
  pub same_at : (m n : BTreeMap A (SmallMap B V)) (key a : A) (b : B) (s : SmallMap B V)
      (o : Option (SmallMap B V))
      → get outer n a ≡ cond (eq_by_cmp outer key a) o (get outer m a) → Some s ≡ get outer m key
      → found inner o b ≡ find inner s b → find_in outer inner n a b ≡ find_in outer inner m a b
  same_at m n key a b s o e there is = grind (arith, get_equal)

  -- what is set twice is what was set last
  pub after_two : (m n l : BTreeMap A (SmallMap B V)) (key a : A) (o w : Option (SmallMap B V))
      → get outer n a ≡ cond (eq_by_cmp outer key a) w (get outer m a)
      → get outer l a ≡ cond (eq_by_cmp outer key a) o (get outer n a)
      → get outer l a ≡ cond (eq_by_cmp outer key a) o (get outer m a)
  after_two m n l key a o w e f = grind arith

-- a list of entries that isn't empty has a key
pub some_entry : {K V : Type 0} {cmp : K → K → Ordering} → IsTotalOrder cmp → (es : List (K × V))
    → (length es ≡ 0 → ⊥) → (k : K) × (is_some (lookup (λ q. is_eq (cmp k q)) es) ≡ true)
some_entry total [] h = absurd (h refl)
some_entry {cmp = cmp} total (e ∷ es) h = (
  e.0,
  ap (λ o. is_some (cond (is_eq o) (Some e.1) (lookup (λ q. is_eq (cmp e.0 q)) es)))
      (tied_itself total e.0),
)
