-- The index of a node's processes, made of lists of their groups.
use Rattle.scope_core.proofs
use proofs.Words
use Words.{all_from, AllByRecursion, AllWithin, ap, arith, Ascends, Bool, cond, Counted, drop}
use Words.{eq_by_cmp, eq_by_cmp_equiv, false, find, found, get_or, HoldsAt, IfSome, is_eq, is_gt}
use Words.{is_held, is_keyed, is_lt, is_member, is_some, IsPermutation, IsSortedByKey, key_cmp}
use Words.{key_of, keyed, keyed_maps, keys_of, length, Less, List, list_any, list_any-IsPermutation}
use Words.{lookup, map, None, One, Option, option_to_list, Ordering, ordering_reverse, process_keys}
use Words.{ProcessKey, ranks_by, refl, Rises, row_at, slice_get, SmallMap, Some, sorted_far, stands}
use Words.{subst, suc, sym, take, text_cmp, texts_total, tied_itself, true, zero, [], ℕ, ◌&&◌, ◌++◌}
use Words.{◌<◌, ◌||◌, ◌∙◌, ◌∷◌, ◌≡◌, ◌≤◌}
use proofs.HashedRows.{keys_total, one_key, one_place, same_key_decides}
use proofs.Pushed.{rises_push}
use proofs.Rising.{all_map, all_mapped}
use Rattle.std.specs.List.{IsDistinct}
use Rattle.std.proofs.lemmas.List.Folds.{list_any-append}

abbrev pub Names : Type 0
Names = SmallMap (List ℕ) (Unit {0})

abbrev pub Maps : Type 0
Maps = List (ProcessKey × Names)

-- ---- keys that rise

above_next : (l k : ProcessKey) (ks : List ProcessKey) → key_cmp l k ≡ Less
    → AllByRecursion (λ q. key_cmp k q ≡ Less) ks → AllByRecursion (λ q. key_cmp l q ≡ Less) ks
above_next l k ks less a = grind (arith, all_map, keys_total)

-- a key before those that rise, where it is below the first
pub rises_next : (o : Option ProcessKey) (k : ProcessKey) (ks : List ProcessKey)
    → IfSome o (λ l. key_cmp l k ≡ Less) → Rises key_cmp (k ∷ ks)
    → Rises key_cmp (option_to_list o ++ k ∷ ks)
rises_next None k ks less r = r
rises_next (Some l) k ks less r = ((less, above_next l k ks less r.0), r)

all_unlike : (k : ProcessKey) (ks : List ProcessKey) → AllByRecursion (λ q. key_cmp k q ≡ Less) ks
    → AllByRecursion (λ q. eq_by_cmp key_cmp k q ≡ false) ks
all_unlike k [] a = tt
all_unlike k (q ∷ ks) a = (ap is_eq a.0, all_unlike k ks a.1)

pub rising_apart : (ks : List ProcessKey) → Rises key_cmp ks → IsDistinct (eq_by_cmp key_cmp) ks
unfolding IsDistinct
rising_apart [] r = tt
rising_apart (k ∷ ks) r = (all_unlike k ks r.0, rising_apart ks r.1)

-- ---- a group under a key

none_held : (k l : ProcessKey) (g : List ℕ) (es : Maps) → eq_by_cmp key_cmp k l ≡ true
    → AllByRecursion (λ q. key_cmp l q ≡ Less) (keys_of es) → is_held k g es ≡ false
none_held k l g [] e a = refl
none_held k l g (x ∷ es) e a = grind (arith, none_held k l g es e a.1, one_key, tied_itself)

-- where the keys rise, a group is found where it is held
pub found_held : (k : ProcessKey) (g : List ℕ) (es : Maps) → Rises key_cmp (keys_of es)
    → is_some (found text_cmp (lookup (λ q. is_eq (key_cmp k q)) es) g) ≡ is_held k g es
found_held k g [] s = refl
found_held k g (e ∷ es) s = grind (arith, found_held k g es s.1, none_held)

-- the groups are found under the keys of the rows' processes
pub keyed_is : (node : List ℕ) (k : ProcessKey) (g : List ℕ) (rows : List Counted)
    → AllByRecursion (λ c. c.row.pid.node ≡ node) rows
    → is_keyed k g (keyed rows) ≡ stands (row_at node g k) rows
keyed_is node k g [] own = refl
keyed_is node k g (c ∷ cs) own = grind (
  arith,
  keyed_is node k g cs own.1,
  one_place,
  (eq_by_cmp_equiv keys_total).symm k (key_of c.row.pid),
)

pub one_found : (group g : List ℕ)
    → is_some (find text_cmp (One group (tt {0})) g) ≡ eq_by_cmp text_cmp group g
one_found group g = by (is_eq (text_cmp g group)) ∙ (eq_by_cmp_equiv texts_total).symm g group
  where
    by : (b : Bool) → is_some (cond b (Some (tt {0})) None) ≡ b
    by true = refl
    by false = refl

pub maps_are : (k : ProcessKey) (g : List ℕ) (rows : List Counted)
    → is_held k g (keyed_maps rows) ≡ is_keyed k g (keyed rows)
maps_are k g [] = refl
maps_are k g (c ∷ cs) =
    λ i. (is_eq (key_cmp k (key_of c.row.pid)) && one_found c.row.group g i) || maps_are k g cs i

pub keys_of_maps : (rows : List Counted) → keys_of (keyed_maps rows) ≡ process_keys rows
keys_of_maps [] = refl
keys_of_maps (c ∷ cs) = grind (arith, keys_of_maps cs)

-- ---- the names of one process, and those behind them

abbrev Named : Type 0
Named = List (ProcessKey × List ℕ)

behind : (l k q : ProcessKey) → key_cmp l k ≡ Less → is_gt (key_cmp k q) ≡ false
    → key_cmp l q ≡ Less
behind l k q less n = grind (arith, keys_total.trans l k q, one_key, same_key_decides)

-- where none is below a key, the first ones stand under it, and all behind them above it
key_run : (key : ProcessKey) (n : ℕ) (ps : Named) → Ascends key_cmp (keys_of ps)
    → AllByRecursion (λ q. is_gt (key_cmp key q) ≡ false) (keys_of ps)
    → AllWithin (λ p. is_eq (key_cmp p.0 key) ≡ true) ps 0 n → n ≤ length ps
    → (n < length ps → HoldsAt (λ p. is_eq (key_cmp p.0 key) ≡ false) ps n)
    → AllByRecursion (λ p. p.0 ≡ key) (take n ps)
    × AllByRecursion (λ q. key_cmp key q ≡ Less) (keys_of (drop n ps))
key_run key zero [] s b a l e = (tt, tt)
key_run key zero (p ∷ ps) s b a l e =
    let other = e (omega arith) p in
    let up : key_cmp key p.0 ≡ Less = grind (arith, one_key, same_key_decides) in
    (tt, (up, all_map _ _ (λ q n. behind key p.0 q up n) (keys_of ps) s.0))
key_run key (suc n) [] s b a l e = absurd (omega arith)
key_run key (suc n) (p ∷ ps) s b a l e =
    let rest = key_run key n ps s.1 b.1 (λ k d m h. a (suc k) d (omega arith) (omega arith))
    (omega arith) (λ h d. e (omega arith) d) in
    let same : p.0 ≡ key =
    (same_key_decides p.0 key).0 (sym (one_key p.0 key) ∙ a 0 p (omega arith) (omega arith)) in
    ((same, rest.0), rest.1)

-- the first names of a list are those of one process, and all others are of processes above it
pub record NameRun (key : ProcessKey) (all run others : Named) : Type 0 where
  pub whole : all ≡ run ++ others
  pub some : 0 < length run
  pub alike : AllByRecursion (λ p. p.0 ≡ key) run
  pub above : AllByRecursion (λ q. key_cmp key q ≡ Less) (keys_of others)

none_below_key : (first : ProcessKey × List ℕ) (ps : Named) → Some first ≡ slice_get ps 0
    → Ascends key_cmp (keys_of ps)
    → AllByRecursion (λ q. is_gt (key_cmp first.0 q) ≡ false) (keys_of ps)
none_below_key first [] e s = tt
none_below_key first (p ∷ ps) e s =
    let same : first ≡ p = grind arith in
    let itself = tied_itself keys_total p.0 in
    subst (λ (f : ProcessKey × List ℕ).
    AllByRecursion (λ q. is_gt (key_cmp f.0 q) ≡ false) (keys_of (p ∷ ps)))
    (sym same) (ap is_gt itself, s.0)

begins : (first : ProcessKey × List ℕ) (n : ℕ) (all : Named) → Some first ≡ slice_get all 0
    → n ≤ length all → (n < length all → HoldsAt (λ p. is_eq (key_cmp p.0 first.0) ≡ false) all n)
    → 0 < length (take n all)
begins first n [] is l e = grind arith
begins first zero (p ∷ ps) is l e =
    let other = e (omega arith) p in
    absurd (grind (arith, tied_itself))
begins first (suc n) (p ∷ ps) is l e = omega arith

pub name_run : (first : ProcessKey × List ℕ) (n : ℕ) (all run others : Named)
    → Some first ≡ slice_get all 0 → Ascends key_cmp (keys_of all)
    → AllWithin (λ p. is_eq (key_cmp p.0 first.0) ≡ true) all 0 n → n ≤ length all
    → (n < length all → HoldsAt (λ p. is_eq (key_cmp p.0 first.0) ≡ false) all n)
    → run ≡ take n all → others ≡ drop n all → all ≡ run ++ others → NameRun first.0 all run others
name_run first n all run others is s a l e front back whole =
    let parts = key_run first.0 n all s (none_below_key first all is s) a l e in
    record {
      whole = whole;
      some = subst (λ ps. 0 < length ps) (sym front) (begins first n all is l e);
      alike = subst (AllByRecursion (λ p. p.0 ≡ first.0)) (sym front) parts.0;
      above = subst (λ ps. AllByRecursion (λ q. key_cmp first.0 q ≡ Less) (keys_of ps)) (sym back)
          parts.1;
    }

-- these maps hold all names but those to come, whose keys are above theirs
pub record Folds (names rest : Named) (es : Maps) : Type 0 where
  pub ascends : Ascends key_cmp (keys_of rest)
  pub rises : Rises key_cmp (keys_of es)
  pub below : AllByRecursion (λ q. AllByRecursion (λ r. key_cmp q r ≡ Less) (keys_of rest))
      (keys_of es)
  pub held : (k : ProcessKey) (g : List ℕ)
      → (is_held k g es || is_keyed k g rest) ≡ is_keyed k g names

keys_push : (es : Maps) (k : ProcessKey) (m : Names)
    → keys_of (es ++ (k, m) ∷ []) ≡ keys_of es ++ k ∷ []
keys_push [] k m = refl
keys_push (e ∷ es) k m = grind (arith, keys_push es k m)

all_push : (P : ProcessKey → Type 0) (k : ProcessKey) (ks : List ProcessKey) → AllByRecursion P ks
    → P k → AllByRecursion P (ks ++ k ∷ [])
all_push P k [] a p = (p, tt)
all_push P k (q ∷ ks) a p = (a.0, all_push P k ks a.1 p)

all_behind : (P : ProcessKey → Type 0) (xs ys : Named) → AllByRecursion P (keys_of (xs ++ ys))
    → AllByRecursion P (keys_of ys)
all_behind P [] ys a = a
all_behind P (x ∷ xs) ys a = all_behind P xs ys a.1

ascends_behind : (xs ys : Named) → Ascends key_cmp (keys_of (xs ++ ys))
    → Ascends key_cmp (keys_of ys)
ascends_behind [] ys s = s
ascends_behind (x ∷ xs) ys s = ascends_behind xs ys s.1

keyed_run : (key k : ProcessKey) (g : List ℕ) (run : Named) → AllByRecursion (λ p. p.0 ≡ key) run
    → is_keyed k g run ≡ (is_eq (key_cmp k key) && list_any (λ p. eq_by_cmp text_cmp p.1 g) run)
keyed_run key k g [] a = grind arith
keyed_run key k g (p ∷ ps) a = grind (arith, keyed_run key k g ps a.1)

below_run : (key q : ProcessKey) (run others : Named) → 0 < length run
    → AllByRecursion (λ p. p.0 ≡ key) run
    → AllByRecursion (λ r. key_cmp q r ≡ Less) (keys_of (run ++ others)) → key_cmp q key ≡ Less
below_run key q [] others some a below = grind arith
below_run key q (p ∷ ps) others some a below = grind arith

pub folds_next : (key : ProcessKey) (names all run others : Named) (es : Maps) (m : Names)
    → NameRun key all run others
    → ((g : List ℕ) → is_some (find text_cmp m g) ≡ list_any (λ p. eq_by_cmp text_cmp p.1 g) run)
    → Folds names all es → Folds names others (es ++ (key, m) ∷ [])
folds_next key names all run others es m r has f =
    let was = subst (λ xs. Folds names xs es) r.whole f in
    let keys = sym (keys_push es key m) in
    let low =
    all_map _ _ (λ q a. below_run key q run others r.some r.alike a) (keys_of es) was.below in
    let left =
    all_map _ _ (λ q a. all_behind (λ r. key_cmp q r ≡ Less) run others a) (keys_of es) was.below in
    record {
      ascends = ascends_behind run others was.ascends;
      rises = subst (Rises key_cmp) keys (rises_push key_cmp (keys_of es) key was.rises low);
      below =
          subst (AllByRecursion (λ q. AllByRecursion (λ r. key_cmp q r ≡ Less) (keys_of others)))
          keys (all_push _ key (keys_of es) left r.above);
      held = λ k g. grind (arith, was.held k g, keyed_run, has g, list_any-append);
    }

pub named : (g : List ℕ) (names : Named) → is_member (eq_by_cmp text_cmp) (map (λ n. n.1) names) g
    ≡ list_any (λ n. eq_by_cmp text_cmp n.1 g) names
named g [] = refl
named g (n ∷ names) = grind (arith, named g names, (eq_by_cmp_equiv texts_total).symm g n.1)

pub folds_all : (names rest : Named) (es : Maps) → None ≡ slice_get rest 0 → Folds names rest es
    → (k : ProcessKey) (g : List ℕ) → is_held k g es ≡ is_keyed k g names
folds_all names [] es e f k g = grind (arith, f.held k g)
folds_all names (p ∷ ps) es e f k g = grind arith

-- ---- what is found in the map

-- in a map of these, whose keys rise, the groups of the rows are found
pub names_found : (rows : List Counted) (es : Maps) (at : ProcessKey → Option Names)
    → (IsDistinct (eq_by_cmp key_cmp) (keys_of es)
    → (k : ProcessKey) → at k ≡ lookup (λ q. is_eq (key_cmp k q)) es) → Rises key_cmp (keys_of es)
    → ((k : ProcessKey) (g : List ℕ) → is_held k g es ≡ is_keyed k g (keyed rows))
    → (node : List ℕ) → AllByRecursion (λ c. c.row.pid.node ≡ node) rows
    → (k : ProcessKey) (g : List ℕ)
    → is_some (found text_cmp (at k) g) ≡ stands (row_at node g k) rows
names_found rows es at is rises held node own k g =
    grind (arith, rising_apart, found_held, keyed_is)

-- the same rows in another order
pub keyed_sorted : (k : ProcessKey) (g : List ℕ) (rows : List Counted)
    (names sorted : List (ProcessKey × List ℕ)) → names ≡ keyed rows → IsPermutation names sorted
    → is_keyed k g sorted ≡ is_keyed k g (keyed rows)
keyed_sorted k g rows names sorted is moved = grind (arith, list_any-IsPermutation)

reversed : (o : Ordering) → is_gt (ordering_reverse o) ≡ is_lt o
reversed o = grind arith

module _ (ps : List (ProcessKey × List ℕ)) where
  keys_ascend : (xs : List (ProcessKey × List ℕ))
      → ((i j : ℕ) (d : ProcessKey × List ℕ) → i ≤ j → j < length xs
      → is_gt (key_cmp (get_or xs i d).0 (get_or xs j d).0) ≡ false) → Ascends key_cmp (keys_of xs)
  keys_ascend [] f = tt
  keys_ascend (x ∷ xs) f = (
    all_mapped (λ q. is_gt (key_cmp x.0 q) ≡ false) (λ y. y.0) xs
        (all_from (λ y. is_gt (key_cmp x.0 y.0) ≡ false) xs
        (λ k d l h. f 0 (suc k) d (omega arith) (omega arith))),
    keys_ascend xs (λ i j d l h. f (suc i) (suc j) d (omega arith) (omega arith)),
  )

  -- copies that are sorted by their keys
  pub sorted_keys : IsSortedByKey (λ p. p.0) key_cmp ps → Ascends key_cmp (keys_of ps)
  sorted_keys s = keys_ascend ps (λ i j d l h.
      ap is_gt (keys_total.antisymm (get_or ps i d).0 (get_or ps j d).0)
      ∙ reversed (key_cmp (get_or ps j d).0 (get_or ps i d).0)
      ∙ sorted_far (λ x y. is_lt (key_cmp x.0 y.0)) (ranks_by keys_total (λ p. p.0)) ps s i j d l h)
