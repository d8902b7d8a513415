-- Changes of groups that are merged one after the other.
use Rattle.node_core.proofs
use Rattle.node_core.specs
use proofs.Words.{AllByRecursion, AllZip, ap, append-nil, arith, Ascends, Bool, cond, false}
use proofs.Words.{GroupChange, is_empty, is_gt, IsListing, IsPidListing, IsProper, length, Less}
use proofs.Words.{List, map, mentions, Ordering, Pid, refl, Rises, same, same_decides, same_pid}
use proofs.Words.{same_pid_decides, subst, sym, text_cmp, texts_total, total, true, ℕ, [], ◌&&◌}
use proofs.Words.{◌++◌, ◌+◌, ◌∙◌, ◌∷◌, ◌≡◌}
use Rattle.std.specs.Cmp.{IsTotalOrder}
use Rattle.std.specs.Fn.{Called}
use Rattle.std.specs.List.Sorted.{IsPermutation, IsSortedByClosure}
use Rattle.std.specs.Ordering.{is_lt}
use Rattle.std.proofs.lemmas.Cmp.{on_total}
use Rattle.std.proofs.lemmas.Fn.{always_returns_same}
use Rattle.std.proofs.lemmas.List.Elements.{All-from_recursion, recursion_from_All}
use Rattle.std.proofs.lemmas.List.Sorted.{All-permutation, ranks_by, sum_by-IsPermutation}
use Rattle.std.proofs.lemmas.Map.Lookups.{exact_bytes}
use Rattle.dist_types.proofs.Listings.{all_append}
use Rattle.dist_types.proofs.Sorts.{sorted_listing}
use Rattle.dist_types.proofs.Totals.{how_many_append, total_is}
use Rattle.scope_core.proofs.Rising.{all_map}
use proofs.Zipped.{zipped_each, zipped_map}
use specs.Ending.{AreGathered}
use specs.Gathering.{AreMerged, AreMergedSoFar, AreUpTo, HasMerged, IsSome, together}
use denote.Param.Members.{Mut}
use denote.Ref.{Bor}

module _ {A : Type 0} (P : A → Type 0) where
  all_front : (xs ys : List A) → AllByRecursion P (xs ++ ys) → AllByRecursion P xs
  all_front [] ys a = tt
  all_front (x ∷ xs) ys a = (a.0, all_front xs ys a.1)

  all_back : (xs ys : List A) → AllByRecursion P (xs ++ ys) → AllByRecursion P ys
  all_back [] ys a = a
  all_back (x ∷ xs) ys a = all_back xs ys a.1

module _ {A : Type 0} (f : A → ℕ) where
  pub total_append : (xs ys : List A) → total f (xs ++ ys) ≡ total f xs + total f ys
  total_append [] ys = omega arith
  total_append (x ∷ xs) ys = omega (arith, total_append xs ys)

  -- a sum doesn't hang on the order
  total_permuted : (xs ys : List A) → IsPermutation xs ys → total f ys ≡ total f xs
  total_permuted xs ys p = total_is f ys ∙ sum_by-IsPermutation f xs ys p ∙ sym (total_is f xs)

-- how often p is on this side of the change, if that is of the group g
abbrev times : (GroupChange → List Pid) → List ℕ → Pid → GroupChange → ℕ
times side g p c = cond (same c.group g) (mentions p (side c)) 0

-- ---- groups that rise

abbrev by_group : GroupChange → GroupChange → Ordering
by_group x y = text_cmp x.group y.group

abbrev AreBelow : List ℕ → List GroupChange → Type 0
AreBelow g gs = AllByRecursion (λ c. text_cmp c.group g ≡ Less) gs

abbrev AreAbove : List ℕ → List (List ℕ) → Type 0
AreAbove g hs = AllByRecursion (λ h. text_cmp g h ≡ Less) hs

abbrev groups : List GroupChange → List (List ℕ)
groups gs = map (λ c. c.group) gs

above_more : (g : List ℕ) (xs : List GroupChange) (x : GroupChange) → AreAbove g (groups xs)
    → text_cmp g x.group ≡ Less → AreAbove g (groups (xs ++ x ∷ []))
above_more g [] x a l = (l, tt)
above_more g (y ∷ ys) x a l = (a.0, above_more g ys x a.1 l)

rise_more : (xs : List GroupChange) (x : GroupChange) → Rises text_cmp (groups xs)
    → AreBelow x.group xs → Rises text_cmp (groups (xs ++ x ∷ []))
rise_more [] x r a = (tt, tt)
rise_more (y ∷ ys) x r a = (above_more y.group ys x r.0 a.0, rise_more ys x r.1 a.1)

above_front : (g : List ℕ) (xs : List GroupChange) (x : GroupChange)
    → AreAbove g (groups (xs ++ x ∷ [])) → AreAbove g (groups xs) × (text_cmp g x.group ≡ Less)
above_front g [] x a = (tt, a.0)
above_front g (y ∷ ys) x a = grind (arith, above_front g ys x a.1)

rise_front : (xs : List GroupChange) (x : GroupChange) → Rises text_cmp (groups (xs ++ x ∷ []))
    → Rises text_cmp (groups xs) × AreBelow x.group xs
rise_front [] x r = (tt, tt)
rise_front (y ∷ ys) x r = grind (arith, rise_front ys x r.1, above_front y.group ys x r.0)

-- in an ascending list, no element before another comes after it
before : {A : Type 0} (R : A → A → Ordering) (xs : List A) (y : A) (ys : List A)
    → Ascends R (xs ++ y ∷ ys) → AllByRecursion (λ x. is_gt (R x y) ≡ false) xs
before R [] y ys a = tt
before R (x ∷ xs) y ys a =
    ((all_back (λ z. is_gt (R x z) ≡ false) xs (y ∷ ys) a.0).0, before R xs y ys a.1)

-- ---- a change of another group comes behind the others

module _ (gs all : List GroupChange) (c : GroupChange) (j : AreMergedSoFar gs all) where
  sums_behind : (side : GroupChange → List Pid) (g : List ℕ) (p : Pid)
      → total (times side g p) all ≡ total (times side g p) gs
      → total (times side g p) (all ++ c ∷ []) ≡ total (times side g p) (gs ++ c ∷ [])
  sums_behind side g p e =
      simp total_append (ap (λ n. n + total (times side g p) (c ∷ [])) e)

  merge_behind : IsSome c → AreBelow c.group all → AreMergedSoFar (gs ++ c ∷ []) (all ++ c ∷ [])
  merge_behind some below = record {
    changes = record {
      groups = rise_more all c j.changes.groups below;
      some = all_append IsSome all (c ∷ []) j.changes.some (some, tt);
      left = λ g p. sums_behind (λ c. c.left) g p (j.changes.left g p);
      joined = λ g p. sums_behind (λ c. c.joined) g p (j.changes.joined g p);
    };
    upto = λ g a.
        let P = λ (x : GroupChange). is_gt (text_cmp x.group g) ≡ false in
        all_append P all (c ∷ []) (j.upto g (all_front P gs (c ∷ []) a)) (all_back P gs (c ∷ []) a);
  }

-- ---- one of the last's group goes into it

still_some : (one other : GroupChange) → IsSome one → IsSome (together one other)
still_some one other some = grind arith

module _ (gs front : List GroupChange) (one other : GroupChange) (e : one.group ≡ other.group)
    (j : AreMergedSoFar gs (front ++ one ∷ [])) where
  sums_last : (side : GroupChange → List Pid) → side (together one other) ≡ side one ++ side other
      → (g : List ℕ) (p : Pid)
      → total (times side g p) (front ++ one ∷ []) ≡ total (times side g p) gs
      → total (times side g p) (front ++ together one other ∷ [])
      ≡ total (times side g p) (gs ++ other ∷ [])
  sums_last side both g p t =
      let same_group : same one.group g ≡ same other.group g = ap (λ x. same x g) e in
      let more = ap (mentions p) both
      ∙ how_many_append (λ y. same_pid y p) (side one) (side other) in
      grind (
        arith,
        total_append (times side g p) front (one ∷ []),
        total_append (times side g p) front (together one other ∷ []),
        total_append (times side g p) gs (other ∷ []),
        t,
        same_group,
        more,
      )

  merge_last : AreMergedSoFar (gs ++ other ∷ []) (front ++ together one other ∷ [])
  merge_last =
      let rises = rise_front front one j.changes.groups in
      let some = still_some one other (all_back IsSome front (one ∷ []) j.changes.some).0 in
      let before = all_front IsSome front (one ∷ []) j.changes.some in
      record {
        changes = record {
          groups = rise_more front (together one other) rises.0 rises.1;
          some = all_append IsSome front (together one other ∷ []) before (some, tt);
          left = λ g p. sums_last (λ c. c.left) refl g p (j.changes.left g p);
          joined = λ g p. sums_last (λ c. c.joined) refl g p (j.changes.joined g p);
        };
        upto = λ g a.
            let P = λ (x : GroupChange). is_gt (text_cmp x.group g) ≡ false in
            let old = j.upto g (all_front P gs (other ∷ []) a) in
            let last : AreUpTo g (together one other ∷ []) = all_back P front (one ∷ []) old in
            all_append P front (together one other ∷ []) (all_front P front (one ∷ []) old) last;
      }

-- ---- so each case of the call merges

less_of : (a b : List ℕ) → is_gt (text_cmp a b) ≡ false → same a b ≡ false → text_cmp a b ≡ Less
less_of a b n e = grind (arith, exact_bytes a b, same_decides a b)

less_trans : (a b : List ℕ) (xs : List GroupChange) → text_cmp a b ≡ Less → AreBelow a xs
    → AreBelow b xs
less_trans a b xs l below =
    all_map (λ c. text_cmp c.group a ≡ Less) (λ c. text_cmp c.group b ≡ Less)
    (λ c m. IsTotalOrder.trans texts_total c.group a b m l) xs below

module _ (old front new : List GroupChange) (c : GroupChange) where
  pub merged_last : (last : GroupChange) → old ≡ front ++ last ∷ []
      → new ≡ front ++ together last c ∷ [] → same last.group c.group ≡ true → HasMerged c old new
  merged_last last was is e gs some upto j =
      let same_group = (same_decides last.group c.group).0 e in
      subst (AreMergedSoFar (gs ++ c ∷ [])) (sym is)
      (merge_last gs front last c same_group (subst (AreMergedSoFar gs) was j))

  pub merged_behind : (last : GroupChange) → old ≡ front ++ last ∷ []
      → new ≡ (front ++ last ∷ []) ++ c ∷ [] → same last.group c.group ≡ false → HasMerged c old new
  merged_behind last was is e gs some upto j =
      let k : AreMergedSoFar gs (front ++ last ∷ []) = subst (AreMergedSoFar gs) was j in
      let P = λ (x : GroupChange). is_gt (text_cmp x.group c.group) ≡ false in
      let less = less_of last.group c.group
      (all_back P front (last ∷ []) (k.upto c.group upto)).0 e in
      let below = less_trans last.group c.group front less
      (rise_front front last k.changes.groups).1 in
      subst (AreMergedSoFar (gs ++ c ∷ [])) (sym is)
      (merge_behind gs (front ++ last ∷ []) c k some
      (all_append (λ x. text_cmp x.group c.group ≡ Less) front (last ∷ []) below (less, tt)))

  pub merged_first : length old ≡ 0 → old ≡ front ++ [] → new ≡ front ++ c ∷ []
      → HasMerged c old new
  merged_first none was is gs some upto j =
      let empty : front ≡ [] = by front (ap length (sym was) ∙ none) in
      let none = subst (AreMergedSoFar gs) (was ∙ ap (λ xs. xs ++ []) empty) j in
      let first = merge_behind gs [] c none some tt in
      subst (AreMergedSoFar (gs ++ c ∷ [])) (sym (is ∙ ap (λ xs. xs ++ c ∷ []) empty)) first
    where
      by : (xs : List GroupChange) → length (xs ++ []) ≡ 0 → xs ≡ []
      by [] e = refl
      by (x ∷ xs) e = absurd (omega arith)

-- ---- all changes, which a sort by the groups leaves ascending

module _ (gs sorted : List GroupChange) (p : IsPermutation gs sorted) where
  pub some_permuted : AllByRecursion IsSome gs → AllByRecursion IsSome sorted
  some_permuted some = recursion_from_All IsSome sorted
      (All-permutation IsSome gs sorted p (All-from_recursion IsSome gs some))

  pub sorted_by_group : {F : Type 0} {g : Mut F (Bor GroupChange × (Bor GroupChange × Unit {0}))
      Ordering} {f : F} → IsSortedByClosure g f sorted
      → ((a : Bor GroupChange × (Bor GroupChange × Unit {0})) (r : Ordering) (f' : F)
      → Called g f a r f' → (r ≡ by_group a.0.now a.1.0.now) × (f' ≡ f)) → Ascends by_group sorted
  sorted_by_group {g = g} {f = f} up calls =
      let compares = always_returns_same g (λ a r. is_lt r ≡ is_lt (by_group a.0.now a.1.0.now)) f
      (λ a r f' k. (ap is_lt (calls a r f' k).0, (calls a r f' k).1)) in
      let ranks = ranks_by texts_total (λ c. c.group) in
      let ordered = up (λ x y. is_lt (by_group x y)) ranks compares in
      IsListing.ascends (sorted_listing by_group (λ x y. true) (on_total (λ c. c.group) texts_total)
      gs sorted p ordered)

  pub merged_permuted : (all : List GroupChange) → AreMerged sorted all → AreMerged gs all
  merged_permuted all j = record {
    groups = j.groups;
    some = j.some;
    left = λ g q. j.left g q ∙ total_permuted (times (λ c. c.left) g q) gs sorted p;
    joined = λ g q. j.joined g q ∙ total_permuted (times (λ c. c.joined) g q) gs sorted p;
  }

-- one more of them is merged
pub merges : (gone all new : List GroupChange) (c : GroupChange) (rest sorted : List GroupChange)
    → sorted ≡ gone ++ c ∷ rest → AllByRecursion IsSome sorted → Ascends by_group sorted
    → AreMergedSoFar gone all → HasMerged c all new → AreMergedSoFar (gone ++ c ∷ []) new
merges gone all new c rest sorted e some up j h =
    h gone (all_back IsSome gone (c ∷ rest) (subst (AllByRecursion IsSome) e some)).0
    (before by_group gone c rest (subst (Ascends by_group) e up)) j

-- all are merged once nothing is left
pub all_merged : (gone rest sorted all : List GroupChange) → gone ++ rest ≡ sorted
    → length rest ≡ 0 → AreMergedSoFar gone all → AreMerged sorted all
all_merged gone [] sorted all e none j =
    subst (λ gs. AreMerged gs all) (sym (append-nil gone) ∙ e) j.changes
all_merged gone (x ∷ rest) sorted all e none j = absurd (omega arith)

-- ---- the processes of each in their order

pub record HasSorted (old new : GroupChange) : Type 0 where
  pub group : new.group ≡ old.group
  pub left : IsPidListing (λ p. mentions p old.left) new.left
  pub joined : IsPidListing (λ p. mentions p old.joined) new.joined

-- lists in which the same are mentioned are empty together
as_empty : (ps qs : List Pid) → ((p : Pid) → mentions p qs ≡ mentions p ps)
    → is_empty qs ≡ is_empty ps
as_empty [] [] m = refl
as_empty (p ∷ ps) (q ∷ qs) m = refl
as_empty [] (q ∷ qs) m = absurd (grind (arith, m q, same_pid_decides q q))
as_empty (p ∷ ps) [] m = absurd (grind (arith, m p, same_pid_decides p p))

sorted_proper : (old new : GroupChange) → HasSorted old new → IsSome old → IsProper new
sorted_proper old new h some =
    let left = as_empty old.left new.left h.left.counts in
    let joined = as_empty old.joined new.joined h.joined.counts in
    record {
      left = h.left.ascends;
      joined = h.joined.ascends;
      some = ap (λ (b : Bool × Bool). b.0 && b.1) (λ i. (left i, joined i)) ∙ some;
    }

module _ (side : GroupChange → List Pid) (counts : (old new : GroupChange) → HasSorted old new
    → (p : Pid) → mentions p (side new) ≡ mentions p (side old)) (g : List ℕ) (p : Pid) where
  sorted_sums : (olds news : List GroupChange) → AllZip HasSorted olds news
      → total (times side g p) news ≡ total (times side g p) olds
  sorted_sums [] [] a = refl
  sorted_sums (x ∷ xs) (y ∷ ys) a =
      let same_group : same y.group g ≡ same x.group g = ap (λ h. same h g) (HasSorted.group a.0) in
      grind (arith, same_group, counts x y a.0 p, sorted_sums xs ys a.1)
  sorted_sums xs ys a = absurd a

-- merged changes are gathered once their processes are in their order
pub sorted_gathered : (gs all sorted : List GroupChange) → AreMerged gs all
    → AllZip HasSorted all sorted → AreGathered gs sorted
sorted_gathered gs all sorted j a =
    let same_groups = zipped_map HasSorted (λ c. c.group) (λ c. c.group) (λ x y h. h.group) all
    sorted a in
    record {
      groups = subst (Rises text_cmp) (sym same_groups) j.groups;
      proper = zipped_each HasSorted IsSome IsProper sorted_proper all sorted a j.some;
      left = λ g p. sorted_sums (λ c. c.left) (λ x y h q. h.left.counts q) g p all sorted a
          ∙ j.left g p;
      joined = λ g p. sorted_sums (λ c. c.joined) (λ x y h q. h.joined.counts q) g p all sorted a
          ∙ j.joined g p;
    }

pub are_some : (gs : List GroupChange) → AllByRecursion IsProper gs → AllByRecursion IsSome gs
are_some gs a = all_map IsProper IsSome (λ c p. p.some) gs a
