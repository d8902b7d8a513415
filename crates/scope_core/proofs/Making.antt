-- The indexes of a node, made of rows in order.
use Rattle.scope_core.proofs
use proofs.Words
use Words.{AllByRecursion, ap, arith, Bool, cond, Counted, counted_cmp, entries_in, eq_by_cmp}
use Words.{false, find, found, get_or, is_eq, key_cmp, key_of, keys_of, length, Less, List, lookup}
use Words.{map, None, Pid, pid_of, ProcessKey, refl, Rises, Row, row_at, same, same_decides}
use Words.{same_row, slice_get, SmallMap, Some, subst, sym, text_cmp, texts_total, tied_itself}
use Words.{true, [], ℕ, ◌++◌, ◌∙◌, ◌∷◌, ◌≡◌}
use proofs.Told.{all_back, all_front, AreAbove, AreIn, Run}
use proofs.Rising.{all_map}
use proofs.HashedRows.{one_key, one_text}
use Rattle.std.specs.List.{IsDistinct}

-- a row's process and count, as the index of groups has them
abbrev pub pairs : List Counted → List (ProcessKey × ℕ)
pairs rows = map (λ c. (key_of c.row.pid, c.count)) rows

module _ (node g : List ℕ) where
  abbrev pub OfOne : List Counted → Type 0
  OfOne rows = AllByRecursion (λ c. (c.row.pid.node ≡ node) × (c.row.group ≡ g)) rows

  pub pairs_lookup : (k : ProcessKey) (rows : List Counted) → OfOne rows
      → lookup (λ q. is_eq (key_cmp k q)) (pairs rows)
      ≡ lookup (same_row (row_at node g k)) (entries_in rows)
  pairs_lookup k [] a = refl
  pairs_lookup k (c ∷ cs) a = grind (arith, pairs_lookup k cs a.1, one_key, same_decides)

  apart : (c : Counted) (cs : List Counted) → (c.row.pid.node ≡ node) × (c.row.group ≡ g) → OfOne cs
      → AllByRecursion (λ d. counted_cmp c d ≡ Less) cs
      → AllByRecursion (λ q. eq_by_cmp key_cmp (key_of c.row.pid) q ≡ false) (keys_of (pairs cs))
  apart c [] o a l = tt
  apart c (d ∷ cs) o a l =
      grind (arith, apart c cs o a.1 l.1, tied_itself texts_total g, tied_itself texts_total node)

  pub pairs_apart : (rows : List Counted) → OfOne rows → Rises counted_cmp rows
      → IsDistinct (eq_by_cmp key_cmp) (keys_of (pairs rows))
  unfolding IsDistinct
  pairs_apart [] a r = tt
  pairs_apart (c ∷ cs) a r = (apart c cs a.0 a.1 r.0, pairs_apart cs a.1 r.1)

pub alone : {A : Type 0} (xs : List A) (x : A) → length xs ≡ 1 → x ≡ get_or xs 0 x → xs ≡ x ∷ []
alone [] x l e = grind arith
alone (y ∷ []) x l e = grind arith
alone (y ∷ z ∷ ys) x l e = grind arith

-- ---- the index of groups, made run by run

abbrev Groups : Type 0
Groups = List (List ℕ × SmallMap ProcessKey ℕ)

-- no two groups are the same, all have rows, and each has the processes of its rows
pub record Indexes (rows : List Counted) (es : Groups) : Type 0 where
  pub above : (g : List ℕ) → AreAbove g rows
      → AllByRecursion (λ h. text_cmp g h ≡ Less) (keys_of es)
  pub apart : IsDistinct (eq_by_cmp text_cmp) (keys_of es)
  pub looked : (node : List ℕ) → AllByRecursion (λ c. c.row.pid.node ≡ node) rows
      → (g : List ℕ) (k : ProcessKey) → found key_cmp (lookup (λ h. is_eq (text_cmp g h)) es) k
      ≡ lookup (same_row (row_at node g k)) (entries_in rows)

pub indexes_none : (rows : List Counted) → None ≡ slice_get rows 0 → Indexes rows []
unfolding IsDistinct
indexes_none [] e = record { above = λ g a. tt; apart = tt; looked = λ node own g k. refl }
indexes_none (c ∷ cs) e = grind arith

module _ (test : Row → Bool) where
  lookup_front : (xs ys : List Counted) → lookup test (entries_in ys) ≡ None
      → lookup test (entries_in (xs ++ ys)) ≡ lookup test (entries_in xs)
  lookup_front [] ys none = none
  lookup_front (x ∷ xs) ys none = grind (arith, lookup_front xs ys none)

  lookup_back : (xs ys : List Counted) → lookup test (entries_in xs) ≡ None
      → lookup test (entries_in (xs ++ ys)) ≡ lookup test (entries_in ys)
  lookup_back [] ys none = refl
  lookup_back (x ∷ xs) ys none = grind (arith, lookup_back xs ys)

-- rows of other groups aren't those of the group
none_above : (g : List ℕ) (p : Pid) (cs : List Counted) → AreAbove g cs
    → lookup (same_row (record { group = g; pid = p })) (entries_in cs) ≡ None
none_above g p [] a = refl
none_above g p (c ∷ cs) a =
    grind (arith, none_above g p cs a.1, same_decides, tied_itself texts_total g)

none_other : (g h : List ℕ) (p : Pid) (cs : List Counted) → AreIn g cs → same h g ≡ false
    → lookup (same_row (record { group = h; pid = p })) (entries_in cs) ≡ None
none_other g h p [] a n = refl
none_other g h p (c ∷ cs) a n = grind (arith, none_other g h p cs a.1 n, same_decides)

of_one : (node g : List ℕ) (xs : List Counted) → AreIn g xs
    → AllByRecursion (λ c. c.row.pid.node ≡ node) xs → OfOne node g xs
of_one node g [] a b = tt
of_one node g (x ∷ xs) a b = grind (arith, of_one node g xs a.1 b.1, same_decides)

-- where the first row is of the group
pub first_above : (group : List ℕ) (all : List Counted) (c : Counted) → Some c ≡ slice_get all 0
    → group ≡ c.row.group → (k : List ℕ) → AreAbove k all → text_cmp k group ≡ Less
first_above group [] c e is k a = grind arith
first_above group (x ∷ xs) c e is k a = grind arith

-- those of one group before those of the others
module _ (group : List ℕ) (all xs cs : List Counted)
    (first : (k : List ℕ) → AreAbove k all → text_cmp k group ≡ Less) (run : Run group all xs cs)
    (m : SmallMap ProcessKey ℕ) (members : (node g : List ℕ) → OfOne node g xs → (k : ProcessKey)
    → find key_cmp m k ≡ lookup (same_row (row_at node g k)) (entries_in xs))
    (tail : Groups) (rest : Indexes cs tail) where
  keys_apart : IsDistinct (eq_by_cmp text_cmp) (group ∷ keys_of tail)
  unfolding IsDistinct
  keys_apart = (all_map _ _ (λ h e. ap is_eq e) _ (rest.above group run.above), rest.apart)

  all_above : (k : List ℕ) → AreAbove k all
      → AllByRecursion (λ h. text_cmp k h ≡ Less) (group ∷ keys_of tail)
  all_above k a = (
    first k a,
    rest.above k (all_back _ xs cs (subst (AreAbove k) run.whole a)),
  )

  looked_parts : (node : List ℕ) → AllByRecursion (λ d. d.row.pid.node ≡ node) (xs ++ cs)
      → (g : List ℕ) (k : ProcessKey) → (b : Bool) → same g group ≡ b
      → found key_cmp (cond b (Some m) (lookup (λ h. is_eq (text_cmp g h)) tail)) k
      ≡ lookup (same_row (row_at node g k)) (entries_in (xs ++ cs))
  looked_parts node own g k true e =
      let is = (same_decides g group).0 e in
      let test = same_row (row_at node g k) in
      members node g (subst (λ h. OfOne node h xs) (sym is)
      (of_one node group xs run.inside (all_front _ xs cs own))) k ∙ sym (lookup_front test xs cs
      (none_above g (pid_of node k) cs (subst (λ h. AreAbove h cs) (sym is) run.above)))
  looked_parts node own g k false e =
      let test = same_row (row_at node g k) in
      rest.looked node (all_back _ xs cs own) g k
      ∙ sym (lookup_back test xs cs (none_other group g (pid_of node k) xs run.inside e))

  pub indexes_next : Indexes all ((group, m) ∷ tail)
  indexes_next = record {
    above = all_above;
    apart = keys_apart;
    looked = λ node own g k.
        let parts =
        looked_parts node (subst (AllByRecursion (λ d. d.row.pid.node ≡ node)) run.whole own) g
        k (same g group) refl in
        ap (λ b. found key_cmp (cond b (Some m) (lookup (λ h. is_eq (text_cmp g h)) tail)) k)
        (one_text g group) ∙ parts ∙ ap (λ ds. lookup (same_row (row_at node g k)) (entries_in ds))
        (sym run.whole);
  }
