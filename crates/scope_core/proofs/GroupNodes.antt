-- A node more in the list of a group, or one less.
use Rattle.scope_core.proofs
use proofs.Words
use Words.{all_from, AllByRecursion, AreInOrder, arith, Ascends, Bool, cond, Err, exact_bytes}
use Words.{false, HoldsAt, how_many, how_many_is, IfOk, IfSome, IndexMap, insert, is_among, is_gt}
use Words.{IsBinarySearchResult, IsDistinct, IsDistinct-head, IsDistinct-tail, IsListing, IsNameGap}
use Words.{keys_of, length, Less, List, lookup, lookup_key, lookup_key_same, ltb-true, named_groups}
use Words.{node_names, nodes_of, None, occurrences, Ok, Option, refl, remove, Result, Rises, same}
use Words.{same_decides, same_sym, set_value_at, slice_get, Some, subst, suc, sum_by-insert}
use Words.{sum_by-remove, sym, text_cmp, texts_total, tied_itself, times_named, true, Updates}
use Words.{updates-with_value_at, Vec, with_value_at, zero, [], ℕ, ◌&&◌, ◌+◌, ◌<◌, ◌∙◌, ◌∷◌, ◌≡◌}
use Words.{◌≤◌}
use proofs.Groups.{among_counts, below}
use proofs.Rising.{none_pass}
use proofs.Searches.{rises_with, rises_without}
use Rattle.std.specs.Cmp.Lexicographic.{nat_list_eq_equiv}
use Rattle.std.specs.declared.alloc.Global.{Global}

abbrev Named : Type 0
Named = List (List ℕ × Vec (List ℕ) Global)

abbrev pub times : List (List ℕ) → List ℕ → ℕ
times ns n = how_many (λ m. same m n) ns

abbrev pub items_of : Option (Vec (List ℕ) Global) → List (List ℕ)
items_of None = []
items_of (Some v) = v.items

-- ---- one list

above_none : (m : List ℕ) (ns : List (List ℕ)) → AllByRecursion (λ k. text_cmp m k ≡ Less) ns
    → times ns m ≡ 0
above_none m [] a = refl
above_none m (k ∷ ns) a =
    grind (arith, above_none m ns a.1, same_decides, tied_itself texts_total m)

-- no name stands in a rising list twice
pub times_once : (ns : List (List ℕ)) → Rises text_cmp ns → (n : List ℕ) → times ns n ≤ 1
times_once [] r n = omega arith
times_once (k ∷ ns) r n = grind (arith, times_once ns r.1 n, above_none k ns r.0, same_decides k n)

times_insert : (ns : List (List ℕ)) (i : ℕ) (m n : List ℕ)
    → times (insert ns i m) n ≡ times ns n + cond (same m n) 1 0
times_insert ns i m n = grind (arith, how_many_is, sum_by-insert)

times_remove : (ns : List (List ℕ)) (i : ℕ) (m n : List ℕ) → i < length ns
    → HoldsAt (λ k. k ≡ m) ns i → times (remove ns i) n + cond (same m n) 1 0 ≡ times ns n
times_remove ns i m n l at = grind (arith, how_many_is, sum_by-remove, at m)

gap_none : (m : List ℕ) (ns : List (List ℕ)) (i : ℕ) → IsNameGap m ns i → times ns m ≡ 0
gap_none m ns i gap =
    grind (arith, ltb-true, all_from, none_pass, same_decides, tied_itself texts_total m)

pub name_found : (ns : List (List ℕ)) (m : List ℕ) (r : Result ℕ ℕ)
    → IsBinarySearchResult (λ k. text_cmp k m) ns r → IfOk r (HoldsAt (λ k. k ≡ m) ns)
name_found ns m (Ok i) h = grind (arith, exact_bytes)
name_found ns m (Err i) h = tt

-- it stands there already
pub named_already : (m : List ℕ) (ns : List (List ℕ)) (i : ℕ) → i < length ns
    → HoldsAt (λ k. k ≡ m) ns i
    → Rises text_cmp ns → (n : List ℕ) → times ns n ≡ cond (same m n) 1 (times ns n)
named_already m ns i l at r n =
    grind (arith, times_remove ns i m n l at, times_once ns r n, same_decides m n)

-- it is put in
pub put_in_times : (m : List ℕ) (ns : List (List ℕ)) (i : ℕ) → IsNameGap m ns i → (n : List ℕ)
    → times (insert ns i m) n ≡ cond (same m n) 1 (times ns n)
put_in_times m ns i gap n = grind (arith, times_insert, gap_none m ns i gap, same_decides m n)

pub put_in_rises : (m : List ℕ) (ns : List (List ℕ)) (i : ℕ) → i ≤ length ns → IsNameGap m ns i
    → Rises text_cmp ns → Rises text_cmp (insert ns i m)
put_in_rises m ns i l gap r = rises_with texts_total (λ n. n) ns i m l r gap

-- it is taken out
pub taken_times : (m : List ℕ) (ns : List (List ℕ)) (i : ℕ) → i < length ns
    → HoldsAt (λ k. k ≡ m) ns i → Rises text_cmp ns → (n : List ℕ)
    → times (remove ns i) n ≡ cond (same m n) 0 (times ns n)
taken_times m ns i l at r n =
    grind (arith, times_remove ns i m n l at, times_once ns r n, same_decides m n)

-- it isn't there
pub absent_times : (m : List ℕ) (ns : List (List ℕ)) (i : ℕ) → IsNameGap m ns i → (n : List ℕ)
    → times ns n ≡ cond (same m n) 0 (times ns n)
absent_times m ns i gap n = grind (arith, gap_none m ns i gap, same_decides)

-- ---- among the lists of all groups

pub nodes_are : (es : Named) (g : List ℕ)
    → nodes_of (node_names es) g ≡ items_of (lookup (same g) es)
nodes_are [] g = refl
nodes_are (e ∷ es) g = grind (arith, nodes_are es g)

module _ (es new : Named) (group : List ℕ) (w : Option (Vec (List ℕ) Global))
    (up : (q : List ℕ) → lookup (same q) new ≡ cond (same group q) w (lookup (same q) es)) where
  -- the list of one group is another
  set_nodes : (g : List ℕ)
      → nodes_of (node_names new) g ≡ cond (same group g) (items_of w) (nodes_of (node_names es) g)
  set_nodes g = grind (arith, nodes_are, up g)

  pub set_times : (node : List ℕ) (k : ℕ) → ((n : List ℕ)
      → times (items_of w) n ≡ cond (same node n) k (times_named (node_names es) group n))
      → (g n : List ℕ) → times_named (node_names new) g n
      ≡ cond (same group g && same node n) k (times_named (node_names es) g n)
  set_times node k here g n = grind (arith, set_nodes, here n, same_decides)

  pub set_same_times : ((n : List ℕ) → times (items_of w) n ≡ times_named (node_names es) group n)
      → (g n : List ℕ) → times_named (node_names new) g n ≡ times_named (node_names es) g n
  set_same_times here g n = grind (arith, set_nodes, here n, same_decides)

  pub set_rises : Rises text_cmp (items_of w) → AreInOrder (node_names es)
      → AreInOrder (node_names new)
  set_rises here rise g = by (same group g) (set_nodes g)
    where
      by : (b : Bool)
          → nodes_of (node_names new) g ≡ cond b (items_of w) (nodes_of (node_names es) g)
          → Rises text_cmp (nodes_of (node_names new) g)
      by true e = rw e here
      by false e = rw e (rise g)

-- ---- the list at a place in the map

pub record IsPlace (es : Named) (at : ℕ) (g k : List ℕ) (v : Vec (List ℕ) Global) : Type 0 where
  pub key : lookup_key (same g) es ≡ Some k
  pub value : lookup (same g) es ≡ Some v
  pub there : slice_get es at ≡ Some (k, v)

-- what is found at the place of what was looked up
pub same_place : (es : Named) (at : ℕ) (g : List ℕ) {h k : List ℕ} {u v : Vec (List ℕ) Global}
    → slice_get es at ≡ Some (h, u) → slice_get es at ≡ Some (k, v)
    → Some h ≡ lookup_key (same g) es → Some u ≡ lookup (same g) es → IsPlace es at g k v
same_place es at g first there key value = grind (arith, key)

set_there : (es : Named) (i : ℕ) (k : List ℕ) (v w : Vec (List ℕ) Global)
    → slice_get es i ≡ Some (k, v) → slice_get (set_value_at es i w) i ≡ Some (k, w)
set_there [] i k v w h = grind arith
set_there (e ∷ es) zero k v w h = grind arith
set_there (e ∷ es) (suc i) k v w h = set_there es i k v w h

module _ {S : Type 0} (nodes : IndexMap (List ℕ) (Vec (List ℕ) Global) S) (at : ℕ)
    (g k : List ℕ) (v w : Vec (List ℕ) Global) (once : IsDistinct same (keys_of nodes.entries))
    (place : IsPlace nodes.entries at g k v) where
  -- it is another
  pub set_at : (q : List ℕ) → lookup (same q) (set_value_at nodes.entries at w)
      ≡ cond (same g q) (Some w) (lookup (same q) nodes.entries)
  set_at q =
      let up = (updates-with_value_at nodes at w nat_list_eq_equiv once k v place.there).0 q in
      grind (arith, lookup_key_same same_decides g nodes.entries k place.key)

  -- it goes, with its group
  pub gone_at : (new : IndexMap (List ℕ) (Vec (List ℕ) Global) S)
      (r : Option (List ℕ × Vec (List ℕ) Global))
      → r ≡ slice_get (set_value_at nodes.entries at w) at
      → IfSome r (λ p. Updates same (with_value_at nodes at w) new p.0 None) → (q : List ℕ)
      → lookup (same q) new.entries ≡ cond (same g q) None (lookup (same q) nodes.entries)
  gone_at new r is gone q =
      let first = is ∙ set_there nodes.entries at k v w place.there in
      let up =
      subst (λ o. IfSome o (λ p. Updates same (with_value_at nodes at w) new p.0 None)) first
      gone in
      grind (arith, up.0 q, set_at, lookup_key_same same_decides g nodes.entries k place.key)

pub found_nodes : (es : Named) (g : List ℕ) (v : Vec (List ℕ) Global) → lookup (same g) es ≡ Some v
    → v.items ≡ nodes_of (node_names es) g
found_nodes es g v found = grind (arith, nodes_are)

pub none_times : (es : Named) (g : List ℕ) → lookup (same g) es ≡ None → (n : List ℕ)
    → times_named (node_names es) g n ≡ 0
none_times es g none n = grind (arith, nodes_are)

-- ---- the groups in order

abbrev names : Named → List (List ℕ)
names es = named_groups (node_names es)

absent_names : (k : List ℕ) (es : Named) → AllByRecursion (λ j. same k j ≡ false) (keys_of es)
    → occurrences same k (names es) ≡ 0
absent_names k [] a = refl
absent_names k (e ∷ es) a = grind (arith, absent_names k es a.1, same_sym)

-- no group stands among them twice
pub names_apart : (es : Named) → IsDistinct same (keys_of es) → (g : List ℕ)
    → occurrences same g (names es) ≤ 1
names_apart [] d g = omega arith
names_apart (e ∷ es) d g =
    let none = λ (h : same e.0 g ≡ true).
    subst (λ k. occurrences same k (names es) ≡ 0) ((same_decides e.0 g).0 h)
    (absent_names e.0 es (IsDistinct-head _ _ _ d)) in
    grind (arith, names_apart es (IsDistinct-tail _ _ _ d) g)

pub found_name : (es : Named) → IsDistinct same (keys_of es) → (g : List ℕ)
    → is_among g (names es) ≡ true → (n : List ℕ) × (0 < times_named (node_names es) g n)
found_name [] d g h = grind arith
found_name (e ∷ es) d g h =
    by (same g e.0) e.1.items refl refl (found_name es (IsDistinct-tail _ _ _ d) g)
  where
    by : (b : Bool) (ns : List (List ℕ)) → same g e.0 ≡ b → e.1.items ≡ ns
        → (is_among g (names es) ≡ true → (n : List ℕ) × (0 < times_named (node_names es) g n))
        → (n : List ℕ) × (0 < times_named (node_names (e ∷ es)) g n)
    by true (m ∷ ns) s i rest = (m, grind (arith, same_decides))
    by true [] s i rest =
        let none = subst (λ k. occurrences same k (names es) ≡ 0) (sym ((same_decides g e.0).0 s))
        (absent_names e.0 es (IsDistinct-head _ _ _ d)) in
        grind (arith, among_counts)
    by false ns s i rest = grind (arith, same_sym)

pub only_name : (es : Named) (g n : List ℕ) → 0 < times_named (node_names es) g n
    → is_among g (names es) ≡ true
only_name [] g n l = grind arith
only_name (e ∷ es) g n l = by e.1.items refl (only_name es g n)
  where
    by : (ns : List (List ℕ)) → e.1.items ≡ ns
        → (0 < times_named (node_names es) g n → is_among g (names es) ≡ true)
        → is_among g (names (e ∷ es)) ≡ true
    by [] i rest = grind (arith, same_sym)
    by (m ∷ ns) i rest = grind (arith, same_sym)

-- names that ascend, each once, rise
all_above : (g : List ℕ) (gs : List (List ℕ))
    → AllByRecursion (λ h. is_gt (text_cmp g h) ≡ false) gs → occurrences same g gs ≡ 0
    → AllByRecursion (λ h. text_cmp g h ≡ Less) gs
all_above g [] a o = tt
all_above g (h ∷ gs) a o = grind (arith, all_above g gs a.1 (grind arith), below, same_sym)

pub names_rise : (gs : List (List ℕ)) → Ascends text_cmp gs
    → ((g : List ℕ) → occurrences same g gs ≤ 1) → Rises text_cmp gs
names_rise [] a once = tt
names_rise (g ∷ gs) a once = (
  all_above g gs a.0 (grind (arith, once g, same_decides)),
  names_rise gs a.1 (λ k. grind (arith, once k)),
)

pub still_among : (xs ys : List (List ℕ)) → IsListing text_cmp same (λ g. occurrences same g xs) ys
    → (g : List ℕ) → is_among g ys ≡ is_among g xs
still_among xs ys listing g = grind (arith, among_counts)

-- what stays of the order where a name is put in, and where one is taken out
pub ruleset puts_name = (put_in_times, put_in_rises)

pub ruleset takes_name = (taken_times, rises_without)
