-- Rows in order that are counted one by one.
use Rattle.scope_core.proofs
use proofs.Words
use Words.{Adds, AllByRecursion, ap, AreCounted, arith, Bool, cond, Counted, counted_cmp, get_or}
use Words.{HasRoomFor, HoldsAt, how_many, how_many_is, is_of_node, IsKept, IsPermutation, length}
use Words.{Less, List, max_rows, Rises, Row, row_cmp, same_decides, set, subst, suc}
use Words.{sum_by-IsPermutation, sym, tally, zero, [], ℕ, ◌++◌, ◌+◌, ◌<◌, ◌∷◌, ◌≡◌, ◌≤◌}
use proofs.Tallies.{tally_append}
use proofs.Pushed.{rises_push}

-- ---- one more of a row

abbrev again : Counted → Counted
again c = record { row = c.row; count = c.count + 1 }

all_set : (P : Counted → Type 0) (cs : List Counted) (i : ℕ) (y : Counted) → P y
    → AllByRecursion P cs → AllByRecursion P (set cs i y)
all_set P [] i y p a = tt
all_set P (c ∷ cs) zero y p a = (p, a.1)
all_set P (c ∷ cs) (suc i) y p a = (a.0, all_set P cs i y p a.1)

count_le : (cs : List Counted) (i : ℕ) (c : Counted) → i < length cs → c ≡ get_or cs i c
    → c.count ≤ tally (is_of_node c.row.pid.node) cs
count_le [] i c l e = grind arith
count_le (x ∷ xs) zero c l e = grind (arith, same_decides)
count_le (x ∷ xs) (suc i) c l e = grind (arith, count_le xs i c (omega arith) e)

-- where there is room for the row once more, its count has room for one more
pub count_room : (cs : List Counted) (i : ℕ) (c : Counted) → i < length cs → c ≡ get_or cs i c
    → HasRoomFor (c.row ∷ []) cs → c.count < max_rows
count_room cs i c l e few = grind (arith, same_decides, count_le)

-- at its own place stands its row
pub only_row : (cs : List Counted) (i : ℕ) (c : Counted) → i < length cs → c ≡ get_or cs i c
    → HoldsAt (λ d. d.row ≡ c.row) cs i
only_row [] i c l e = grind arith
only_row (x ∷ xs) zero c l e = grind arith
only_row (x ∷ xs) (suc i) c l e = only_row xs i c (omega arith) e

again_tally : (test : Row → Bool) (cs : List Counted) (i : ℕ) (c : Counted) → i < length cs
    → c ≡ get_or cs i c → tally test (set cs i (again c)) ≡ tally test cs + cond (test c.row) 1 0
again_tally test [] i c l e = grind arith
again_tally test (x ∷ xs) zero c l e = grind arith
again_tally test (x ∷ xs) (suc i) c l e = grind (arith, again_tally test xs i c (omega arith) e)

again_rises : (cs : List Counted) (i : ℕ) (c : Counted) → i < length cs → c ≡ get_or cs i c
    → Rises counted_cmp cs → Rises counted_cmp (set cs i (again c))
again_rises [] i c l e r = tt
again_rises (x ∷ xs) zero c l e r =
    subst (λ y. Rises counted_cmp (record { row = y.row; count = c.count + 1 } ∷ xs)) (sym e) r
again_rises (x ∷ xs) (suc i) c l e r = (
  all_set (λ d. counted_cmp x d ≡ Less) xs i (again c) (above x xs i c (omega arith) e r.0) r.0,
  again_rises xs i c (omega arith) e r.1,
)
  where
    above : (x : Counted) (ds : List Counted) (i : ℕ) (c : Counted) → i < length ds
        → c ≡ get_or ds i c → AllByRecursion (λ d. counted_cmp x d ≡ Less) ds
        → counted_cmp x c ≡ Less
    above x [] i c l e a = grind arith
    above x (d ∷ ds) zero c l e a = grind arith
    above x (d ∷ ds) (suc i) c l e a = above x ds i c (omega arith) e a.1

-- the last of the rows is counted once more
pub last_again : (cs : List Counted) (i : ℕ) (c : Counted) → i < length cs → c ≡ get_or cs i c
    → IsKept cs → (row : Row) → HoldsAt (λ d. d.row ≡ row) cs i → HasRoomFor (row ∷ []) cs
    → Adds (row ∷ []) cs (set cs i (again c)) × IsKept (set cs i (again c))
last_again cs i c l e kept row at few = (
  more,
  record {
    rises = again_rises cs i c l e kept.rises;
    counted = all_set (λ d. 0 < d.count) cs i (again c) (omega arith) kept.counted;
    few = λ node. grind (arith, more (is_of_node node), few node);
  },
)
  where
    more : Adds (row ∷ []) cs (set cs i (again c))
    more test = grind (arith, again_tally)

-- an empty list has no last row
pub no_last : (xs : List Counted) (i : ℕ) (row : Row) → length xs ≡ 0
    → HoldsAt (λ d. d.row ≡ row) xs i → ⊥
no_last [] i row l at =
    let other : Row =
    record { group = []; pid = record { node = []; creation = 0; number = suc row.pid.number } }
    in
    let is = ap (λ (r : Row). r.pid.number) (at (record { row = other; count = 0 })) in
    omega arith
no_last (x ∷ xs) i row l at = omega arith

-- ---- rows that come

-- with a new one they are kept
pub new_last : (row : Row) (cs : List Counted) → Rises counted_cmp cs → AreCounted cs
    → AllByRecursion (λ c. row_cmp c.row row ≡ Less) cs
    → Rises counted_cmp (cs ++ record { row = row; count = 1 } ∷ [])
    × AreCounted (cs ++ record { row = row; count = 1 } ∷ [])
new_last row cs r a b =
    (rises_push counted_cmp cs (record { row = row; count = 1 }) r b, counted cs a)
  where
    counted : (ds : List Counted) → AreCounted ds
        → AreCounted (ds ++ record { row = row; count = 1 } ∷ [])
    counted [] a = grind arith
    counted (d ∷ ds) a = (a.0, counted ds a.1)

pub new_tally : (row : Row) (test : Row → Bool) (cs : List Counted)
    → tally test (cs ++ record { row = row; count = 1 } ∷ []) ≡ tally test cs + cond (test row) 1 0
new_tally row test cs = grind (arith, tally_append)

-- one row on, in the loop over the rows: here are those to come, later those behind it
module _ (all here later : List Row) (row : Row) (next : here ≡ row ∷ later) (old : List Counted)
    (was : (test : Row → Bool) → tally test old + how_many test here ≡ how_many test all)
  where
    pub added_next : (new : List Counted) → Adds (row ∷ []) old new → (test : Row → Bool)
        → tally test new + how_many test later ≡ how_many test all
    added_next new more test = grind (arith, was test, more)

    pub has_room : HasRoomFor all [] → HasRoomFor (row ∷ []) old
    has_room few node = grind (arith, was (is_of_node node), few node)

-- the same rows in another order
pub sorted_as_many : (test : Row → Bool) (rows sorted : List Row) → IsPermutation rows sorted
    → how_many test sorted ≡ how_many test rows
sorted_as_many test rows sorted p = grind (arith, how_many_is, sum_by-IsPermutation)
