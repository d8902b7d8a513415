-- The changes of rows that leave and join, told group by group.
use Rattle.scope_core.proofs
use proofs.Words
use Words.{AllByRecursion, AllWithin, and_parts, ap, arith, Bool, change_unless_empty, cond}
use Words.{Counted, counted_cmp, drop, exact_bytes, false, filter, GroupChange, HoldsAt, is_empty}
use Words.{is_gt, is_in, is_row, IsDifference, IsPidListing, length, Less, List, list_any, mentions}
use Words.{Pid, refl, Rises, same, same_decides, slice_get, Some, spread, subst, suc, sym, take}
use Words.{tally, Tells, text_cmp, texts_total, tied_itself, times_joined, times_left, true, zero}
use Words.{[], ℕ, ◌&&◌, ◌++◌, ◌+◌, ◌-◌, ◌<◌, ◌||◌, ◌∷◌, ◌≡◌, ◌≤◌}
use proofs.Rising.{all_map, all_mapped, groups_above}
use proofs.Groups.{below}
use proofs.Shares.{pids_listing}
use proofs.Tallies.{none_mentioned, tally_append}

-- ---- the first rows, of the lowest group, and those behind them

-- the rows are of groups above this one
abbrev pub AreAbove : List ℕ → List Counted → Type 0
AreAbove g cs = AllByRecursion (λ c. text_cmp g c.row.group ≡ Less) cs

-- none of the rows is of a group below this one
abbrev pub NoneBelow : List ℕ → List Counted → Type 0
NoneBelow g cs = AllByRecursion (λ c. is_gt (text_cmp g c.row.group) ≡ false) cs

abbrev pub AreIn : List ℕ → List Counted → Type 0
AreIn g cs = AllByRecursion (λ c. is_in g c ≡ true) cs

higher : (g h k : List ℕ) → text_cmp g h ≡ Less → is_gt (text_cmp h k) ≡ false → text_cmp g k ≡ Less
higher g h k l n = grind (arith, texts_total.trans g h k l, exact_bytes h k)

above_from : (g : List ℕ) (c : Counted) (cs : List Counted) → text_cmp g c.row.group ≡ Less
    → Rises counted_cmp (c ∷ cs) → AreAbove g cs
above_from g c cs l r = grind (arith, all_map, higher, groups_above)

-- where the run of a group ends that is the lowest, all others are above it
run_parts : (g : List ℕ) (n : ℕ) (cs : List Counted) → Rises counted_cmp cs → NoneBelow g cs
    → AllWithin (λ c. is_in g c ≡ true) cs 0 n
    → n ≤ length cs → (n < length cs → HoldsAt (λ c. is_in g c ≡ false) cs n)
    → AreIn g (take n cs) × AreAbove g (drop n cs)
run_parts g zero [] r b a l e = (tt, tt)
run_parts g zero (c ∷ cs) r b a l e =
    let other = e (omega arith) c in
    let up = below g c.row.group b.0 (grind (arith, same_decides)) in
    (tt, (up, above_from g c cs up r))
run_parts g (suc n) [] r b a l e = grind arith
run_parts g (suc n) (c ∷ cs) r b a l e =
    let rest = run_parts g n cs r.1 b.1 (λ k d m h. a (suc k) d (omega arith) (omega arith))
    (omega arith) (λ h d. e (omega arith) d) in
    ((a 0 c (omega arith) (omega arith), rest.0), rest.1)

none_in : (g : List ℕ) (cs : List Counted) → AreAbove g cs → list_any (is_in g) cs ≡ false
none_in g [] a = refl
none_in g (c ∷ cs) a = grind (arith, none_in g cs a.1, same_decides, tied_itself texts_total g)

-- all rows are those of the group, and behind them rows of groups above it
pub record Run (g : List ℕ) (all xs cs : List Counted) : Type 0 where
  pub whole : all ≡ xs ++ cs
  pub inside : AreIn g xs
  pub above : AreAbove g cs
  pub rises : Rises counted_cmp (xs ++ cs)

pub run_at : (g : List ℕ) (n : ℕ) (all xs cs : List Counted) → Rises counted_cmp all
    → NoneBelow g all → AllWithin (λ c. is_in g c ≡ true) all 0 n
    → n ≤ length all → (n < length all → HoldsAt (λ c. is_in g c ≡ false) all n) → xs ≡ take n all
    → cs ≡ drop n all → all ≡ xs ++ cs → Run g all xs cs
run_at g n all xs cs r b a l e front back whole = grind (arith, run_parts, whole)

-- one of two runs has a row, where one of the lists has a row of the group
pub some_run : (g : List ℕ) (all more xs cs ys ds : List Counted) → Run g all xs cs
    → Run g more ys ds
    → (list_any (is_in g) all || list_any (is_in g) more) ≡ true → 0 < length xs + length ys
some_run g all more [] cs [] ds one two some = grind (arith, none_in)
some_run g all more (x ∷ xs) cs ys ds one two some = omega arith
some_run g all more [] cs (y ∷ ys) ds one two some = omega arith

pub rises_back : (xs ys : List Counted) → Rises counted_cmp (xs ++ ys) → Rises counted_cmp ys
rises_back [] ys r = r
rises_back (x ∷ xs) ys r = rises_back xs ys r.1

module _ (P : Counted → Type 0) where
  pub all_front : (xs ys : List Counted) → AllByRecursion P (xs ++ ys) → AllByRecursion P xs
  all_front [] ys a = tt
  all_front (x ∷ xs) ys a = (a.0, all_front xs ys a.1)

  pub all_back : (xs ys : List Counted) → AllByRecursion P (xs ++ ys) → AllByRecursion P ys
  all_back [] ys a = a
  all_back (x ∷ xs) ys a = all_back xs ys a.1

pub rises_front : (xs ys : List Counted) → Rises counted_cmp (xs ++ ys) → Rises counted_cmp xs
rises_front [] ys r = tt
rises_front (x ∷ xs) ys r = (all_front _ xs ys r.0, rises_front xs ys r.1)

-- ---- the lower one of the first groups

-- what isn't above the first group isn't above any
pub none_below_first : (g : List ℕ) (cs : List Counted) (c : Counted) → Some c ≡ slice_get cs 0
    → is_gt (text_cmp g c.row.group) ≡ false → Rises counted_cmp cs → NoneBelow g cs
none_below_first g [] c e n r = tt
none_below_first g (x ∷ xs) c e n r =
    let first : is_gt (text_cmp g x.row.group) ≡ false = grind arith in (
      first,
      all_map _ _ (λ d m. up d first m) xs (groups_above x xs r.0),
    )
  where
    up : (d : Counted) → is_gt (text_cmp g x.row.group) ≡ false
        → is_gt (text_cmp x.row.group d.row.group) ≡ false → is_gt (text_cmp g d.row.group) ≡ false
    up d f m = grind (
      arith,
      texts_total.trans g x.row.group d.row.group,
      exact_bytes g x.row.group,
      exact_bytes x.row.group d.row.group,
    )

pub itself : (g : List ℕ) → is_gt (text_cmp g g) ≡ false
itself g = ap is_gt (tied_itself texts_total g)

pub first_in : (cs : List Counted) (c : Counted) → Some c ≡ slice_get cs 0
    → list_any (is_in c.row.group) cs ≡ true
first_in [] c e = grind arith
first_in (x ∷ xs) c e = grind (arith, same_decides)

-- ---- what is told of the lowest group, and of the others

-- the changes tell what leaves and joins, and are of groups that have rows
pub record Told (cs ds : List Counted) (changes : List GroupChange) : Type 0 where
  pub tells : Tells cs ds changes
  pub above : (g : List ℕ) → AreAbove g cs → AreAbove g ds
      → AllByRecursion (λ c. text_cmp g c.group ≡ Less) changes

pub told_none : (cs ds : List Counted) → cs ≡ [] → ds ≡ [] → Told cs ds []
told_none [] [] e f = record {
  tells = λ before after less more. record {
    groups = tt;
    proper = tt;
    left = λ g p. sym (less g p);
    joined = λ g p. sym (more g p);
  };
  above = λ g a b. tt;
}
told_none [] (d ∷ ds) e f = grind arith
told_none (c ∷ cs) ds e f = grind arith

abbrev pub pids : List Counted → List Pid
pids cs = spread (λ c. c.row.pid) (λ c. c.count) cs

filter_all : (g : List ℕ) (cs : List Counted) → AreIn g cs → filter (is_in g) cs ≡ cs
filter_all g [] a = refl
filter_all g (c ∷ cs) a = grind (arith, filter_all g cs a.1)

run_listing : (g : List ℕ) (cs : List Counted) → AreIn g cs → Rises counted_cmp cs
    → IsPidListing (λ p. tally (is_row g p) cs) (pids cs)
run_listing g cs a r = grind (arith, filter_all, pids_listing)

other_run : (g h : List ℕ) (p : Pid) (cs : List Counted) → AreIn g cs → same g h ≡ false
    → tally (is_row h p) cs ≡ 0
other_run g h p [] a n = refl
other_run g h p (c ∷ cs) a n = grind (arith, other_run g h p cs a.1 n, same_decides)

above_tally : (g h : List ℕ) (p : Pid) (cs : List Counted) → AreAbove g cs → same g h ≡ true
    → tally (is_row h p) cs ≡ 0
above_tally g h p [] a e = refl
above_tally g h p (c ∷ cs) a e = grind (
  arith,
  above_tally g h p cs a.1 e,
  same_decides,
  tied_itself texts_total g,
)

-- rows of the group g, and behind them rows of higher groups
module _ (g : List ℕ) (xs cs : List Counted) (inside : AreIn g xs) (high : AreAbove g cs)
    (r : Rises counted_cmp (xs ++ cs)) where
  listing : IsPidListing (λ p. tally (is_row g p) xs) (pids xs)
  listing = grind (arith, run_listing, rises_front)

  pub parted : (h : List ℕ) (p : Pid) → tally (is_row h p) (xs ++ cs)
      ≡ cond (same g h) (mentions p (pids xs)) 0 + tally (is_row h p) cs
  parted h p = grind (arith, same_decides, listing, tally_append, other_run)

  pub behind : (h : List ℕ) (p : Pid)
      → tally (is_row h p) cs ≡ cond (same g h) 0 (tally (is_row h p) (xs ++ cs))
  behind h p = grind (arith, parted, above_tally)

  pub below_run : (k : List ℕ) → AreAbove k (xs ++ cs) → is_empty (pids xs) ≡ false
      → text_cmp k g ≡ Less
  below_run k a e = by xs inside (all_front _ xs cs a) e
    where
      by : (ys : List Counted) → AreIn g ys → AreAbove k ys → is_empty (pids ys) ≡ false
          → text_cmp k g ≡ Less
      by [] i b e = grind arith
      by (y ∷ ys) i b e = grind (arith, same_decides)

module _ (g : List ℕ) (xs cs ys ds : List Counted) (inside : AreIn g xs) (high : AreAbove g cs)
    (r : Rises counted_cmp (xs ++ cs))
    (also : AreIn g ys) (up : AreAbove g ds) (s : Rises counted_cmp (ys ++ ds))
    (changes : List GroupChange) (told : Told cs ds changes) where
  abbrev here : GroupChange
  here = record { group = g; left = pids xs; joined = pids ys }

  abbrev with_here : Bool → List GroupChange
  with_here none = cond none [] (here ∷ []) ++ changes

  module _ (before after : List ℕ → Pid → ℕ)
      (less : (h : List ℕ) (p : Pid) → before h p - after h p ≡ tally (is_row h p) (xs ++ cs))
      (more : (h : List ℕ) (p : Pid) → after h p - before h p ≡ tally (is_row h p) (ys ++ ds)) where
    -- the counts of the other groups
    abbrev others : (List ℕ → Pid → ℕ) → List ℕ → Pid → ℕ
    others count h p = cond (same g h) 0 (count h p)

    rest : IsDifference (others before) (others after) changes
    rest = told.tells (others before) (others after)
        (λ h p. grind (arith, less h p, behind g xs cs inside high r h p))
        (λ h p. grind (arith, more h p, behind g ys ds also up s h p))

    left_here : (h : List ℕ) (p : Pid)
        → cond (same g h) (mentions p (pids xs)) 0 + times_left h p changes ≡ before h p - after h p
    left_here h p = grind (
      arith,
      rest.left h p,
      less h p,
      parted g xs cs inside high r h p,
      behind g xs cs inside high r h p,
    )

    joined_here : (h : List ℕ) (p : Pid)
        → cond (same g h) (mentions p (pids ys)) 0 + times_joined h p changes
        ≡ after h p - before h p
    joined_here h p = grind (
      arith,
      rest.joined h p,
      more h p,
      parted g ys ds also up s h p,
      behind g ys ds also up s h p,
    )

    difference : (none : Bool) → (is_empty (pids xs) && is_empty (pids ys)) ≡ none
        → IsDifference before after (with_here none)
    difference true e = let none = and_parts (is_empty (pids xs)) (is_empty (pids ys)) e in record {
      groups = rest.groups;
      proper = rest.proper;
      left = λ h p. grind (arith, left_here h p, none_mentioned p (pids xs) none.0);
      joined = λ h p. grind (arith, joined_here h p, none_mentioned p (pids ys) none.1);
    }
    difference false e = record {
      groups = (
        all_mapped _ _ changes (told.above g high up),
        rest.groups,
      );
      proper = (
        record {
          left = (listing g xs cs inside high r).ascends;
          joined = (listing g ys ds also up s).ascends;
          some = e;
        },
        rest.proper,
      );
      left = left_here;
      joined = joined_here;
    }

  above_here : (none : Bool) → (is_empty (pids xs) && is_empty (pids ys)) ≡ none → (k : List ℕ)
      → AreAbove k (xs ++ cs) → AreAbove k (ys ++ ds)
      → AllByRecursion (λ c. text_cmp k c.group ≡ Less) (with_here none)
  above_here true e k a b = grind (arith, all_back)
  above_here false e k a b = grind (arith, below_run, all_back)

  told_first : Told (xs ++ cs) (ys ++ ds) (change_unless_empty g (pids xs) (pids ys) ++ changes)
  told_first = let none = is_empty (pids xs) && is_empty (pids ys) in
      record {
        tells = λ before after less more. difference before after less more none refl;
        above = above_here none refl;
      }

-- the change of the lowest group stands before those of the others, unless it is empty
pub told_next : (g : List ℕ) (all more xs cs ys ds : List Counted) → Run g all xs cs
    → Run g more ys ds → (rest : List GroupChange) → Told cs ds rest
    → Told all more (change_unless_empty g (pids xs) (pids ys) ++ rest)
told_next g all more xs cs ys ds one two rest told =
    let all_told =
    told_first g xs cs ys ds one.inside one.above one.rises two.inside two.above two.rises rest
    told in
    subst (λ ks. Told ks more (change_unless_empty g (pids xs) (pids ys) ++ rest)) (sym one.whole)
    (subst (λ ks. Told (xs ++ cs) ks (change_unless_empty g (pids xs) (pids ys) ++ rest))
    (sym two.whole) all_told)
