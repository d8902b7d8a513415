-- Lists in answers are the listings of their counts.
use Rattle.policy_audit.proofs
use proofs.Words.{all_append, AllByRecursion, ap, arith, ascending, ascending_rises}
use proofs.Words.{ascending_stands, Ascends, Bool, cond, exact_bytes, exact_pids, false, filter}
use proofs.Words.{flat_map, how_many_append, in_one_group, is_among, is_empty, is_gt}
use proofs.Words.{IsGroupListing, IsListing, IsPidListing, IsRowListing, Less, List, listing}
use proofs.Words.{listing_counts, map, mentions, not, occurrences, one_of_many, Ordering}
use proofs.Words.{ordering_then, Pid, pid_cmp, pids_total, refl, Rises, Row, row, row_cmp, same}
use proofs.Words.{same_decides, same_pid, same_pid_decides, same_row, stands_in, text_cmp}
use proofs.Words.{texts_total, total, true, ℕ, [], ◌++◌, ◌+◌, ◌<◌, ◌||◌, ◌∙◌, ◌∷◌, ◌≡◌}
use proofs.Named.{stands_occurs}

-- ---- what a filter leaves

pub filter_all : {A : Type 0} (P : A → Type 0) (test : A → Bool) (xs : List A) → AllByRecursion P xs
    → AllByRecursion P (filter test xs)
filter_all P test [] a = tt
filter_all P test (x ∷ xs) a = grind (arith, a.0, filter_all P test xs a.1)

pub filter_rises : {A : Type 0} (R : A → A → Ordering) (test : A → Bool) (xs : List A) → Rises R xs
    → Rises R (filter test xs)
filter_rises R test [] a = tt
filter_rises R test (x ∷ xs) a =
    grind (arith, filter_all (λ y. R x y ≡ Less) test xs a.0, filter_rises R test xs a.1)

-- what is left passes the test
pub left_passes : (test : List ℕ → Bool) (g : List ℕ) (xs : List (List ℕ))
    → is_among g (filter test xs) ≡ true → test g ≡ true
left_passes test g [] q = absurd (let f : false ≡ true = q in cc)
left_passes test g (x ∷ xs) q = grind (arith, left_passes test g xs, same_decides x g)

-- what passes the test is left
pub passes_left : (test : List ℕ → Bool) (g : List ℕ) (xs : List (List ℕ)) → is_among g xs ≡ true
    → test g ≡ true → is_among g (filter test xs) ≡ true
passes_left test g [] q t = q
passes_left test g (x ∷ xs) q t = grind (arith, passes_left test g xs, same_decides x g)

-- ---- members and groups

pub some_member : (ps : List Pid) → not (is_empty ps) ≡ true → (p : Pid) × (0 < mentions p ps)
some_member [] q = absurd (let f : false ≡ true = q in cc)
some_member (p ∷ ps) q = (
  p,
  stands_occurs same_pid p (p ∷ ps)
      (ap (λ b. b || stands_in same_pid p ps) ((same_pid_decides p p).1 refl)),
)

pub member_some : (p : Pid) (ps : List Pid) → 0 < mentions p ps → not (is_empty ps) ≡ true
member_some p [] q = absurd (omega arith)
member_some p (x ∷ ps) q = refl

module _ (count : List ℕ → Pid → ℕ) (pids : List ℕ → List Pid) (named : List (List ℕ))
    (pid_is : (g : List ℕ) (p : Pid) → 0 < count g p → stands_in same_pid p (pids g) ≡ true)
    (group_is : (g : List ℕ) (p : Pid) → 0 < count g p → is_among g named ≡ true) where
  abbrev pub members_of : List ℕ → List Pid
  members_of g = listing pid_cmp (count g) (pids g)

  abbrev pub has_members : List ℕ → Bool
  has_members g = not (is_empty (members_of g))

  pub members_are : (g : List ℕ) → IsPidListing (count g) (members_of g)
  members_are g =
      listing_counts pid_cmp same_pid pids_total exact_pids same_pid_decides (count g) (pids g)
      (pid_is g)

  pub groups_are : IsGroupListing count (filter has_members (ascending text_cmp named))
  groups_are = grind (
    arith,
    ascending_rises text_cmp same texts_total exact_bytes same_decides named,
    filter_rises,
    texts_total,
    exact_bytes,
    same_decides,
    some_member,
    left_passes,
    members_are,
    passes_left,
    ascending_stands,
    member_some,
  )

-- ---- rows

pub rows_of_group : (g : List ℕ) (ps : List Pid) → Ascends pid_cmp ps
    → Ascends row_cmp (map (row g) ps)
rows_of_group g [] a = tt
rows_of_group g (p ∷ ps) a = (each ps a.0, rows_of_group g ps a.1)
  where
    each : (qs : List Pid) → AllByRecursion (λ q. is_gt (pid_cmp p q) ≡ false) qs
        → AllByRecursion (λ r. is_gt (row_cmp (row g p) r) ≡ false) (map (row g) qs)
    each [] a = tt
    each (q ∷ qs) a = (ap is_gt (in_one_group (row g p) (row g q) refl) ∙ a.0, each qs a.1)

ascends_append : {A : Type 0} (R : A → A → Ordering) (xs ys : List A) → Ascends R xs → Ascends R ys
    → AllByRecursion (λ x. AllByRecursion (λ y. is_gt (R x y) ≡ false) ys) xs → Ascends R (xs ++ ys)
ascends_append R [] ys a b c = b
ascends_append R (x ∷ xs) ys a b c =
    (all_append (λ y. is_gt (R x y) ≡ false) xs ys a.0 c.0, ascends_append R xs ys a.1 b c.1)

pub count_in_group : (r : Row) (g : List ℕ) (ps : List Pid)
    → occurrences same_row r (map (row g) ps) ≡ cond (same g r.group) (mentions r.pid ps) 0
count_in_group r g [] = grind arith
count_in_group r g (p ∷ ps) = grind (arith, count_in_group r g ps)

module _ (count : List ℕ → Pid → ℕ) (members : List ℕ → List Pid)
    (are : (g : List ℕ) → IsPidListing (count g) (members g)) where
  abbrev rows : List (List ℕ) → List Row
  rows gs = flat_map (λ g. map (row g) (members g)) gs

  -- a row of g comes before the rows of later groups
  before : (g : List ℕ) (p : Pid) (gs : List (List ℕ))
      → AllByRecursion (λ f. text_cmp g f ≡ Less) gs
      → AllByRecursion (λ r. is_gt (row_cmp (row g p) r) ≡ false) (rows gs)
  before g p [] a = tt
  before g p (f ∷ gs) a =
      all_append (λ r. is_gt (row_cmp (row g p) r) ≡ false) (map (row f) (members f)) (rows gs)
      (each (members f)) (before g p gs a.1)
    where
      each : (qs : List Pid)
          → AllByRecursion (λ r. is_gt (row_cmp (row g p) r) ≡ false) (map (row f) qs)
      each [] = tt
      each (q ∷ qs) = (ap (λ o. is_gt (ordering_then o (pid_cmp p q))) a.0, each qs)

  ascend : (gs : List (List ℕ)) → Rises text_cmp gs → Ascends row_cmp (rows gs)
  ascend [] a = tt
  ascend (g ∷ gs) a =
      ascends_append row_cmp (map (row g) (members g)) (rows gs)
      (rows_of_group g (members g) (IsListing.ascends (are g))) (ascend gs a.1) (each (members g))
    where
      each : (ps : List Pid)
          → AllByRecursion (λ r. AllByRecursion (λ s. is_gt (row_cmp r s) ≡ false) (rows gs))
          (map (row g) ps)
      each [] = tt
      each (p ∷ ps) = (before g p gs a.0, each ps)

  counted : (r : Row) (gs : List (List ℕ))
      → occurrences same_row r (rows gs)
      ≡ total (λ g. cond (same g r.group) (mentions r.pid (members g)) 0) gs
  counted r [] = refl
  counted r (g ∷ gs) = how_many_append (λ s. same_row s r) (map (row g) (members g)) (rows gs)
      ∙ ap (λ (n : ℕ × ℕ). n.0 + n.1) (λ i. (count_in_group r g (members g) i, counted r gs i))

  pub rows_are : (gs : List (List ℕ)) → IsGroupListing count gs → IsRowListing count (rows gs)
  rows_are gs a = record {
    ascends = ascend gs a.rises;
    counts = λ r. counted r gs ∙ one_of_many text_cmp same texts_total exact_bytes same_decides
        (λ g. mentions r.pid (members g)) r.group gs a.rises
        ∙ grind (arith, IsListing.counts (are r.group) r.pid, a.only r.group r.pid);
  }
