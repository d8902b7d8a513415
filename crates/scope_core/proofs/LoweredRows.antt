-- Counts that are lowered, one row after another, and raised again.
use Rattle.scope_core.proofs
use proofs.Words
use Words.{ap, are_all_in, arith, Bool, cond, Counted, counted_in, drop, eqb-false, eqb-true, false}
use Words.{get_or, get_or_default, has_row, HoldsAt, how_many, how_many_append, IfSome, is_of_node}
use Words.{is_row, IsDistinct, IsLowered, keys-set_value, keys_of, le-leb, length, List, list_all}
use Words.{list_any, lookup, lt-leb, max_rows, nat_lt, None, once_more, Option, Pid, raised, refl}
use Words.{Row, same_row, Some, subst, suc, sym, take, take-append-drop, take_all, take_more, tally}
use Words.{true, unwrap_or, zero, [], ℕ, ◌++◌, ◌+◌, ◌-◌, ◌<◌, ◌==◌, ◌∙◌, ◌∷◌, ◌≡◌, ◌≤◌}
use proofs.HashedRows.{count_is, rows_equal, set_tally, stands_is}
use proofs.HashedWrites.{tally_stands}

abbrev Entries : Type 0
Entries = List (Row × ℕ)

-- whether it is the same row
abbrev is : Row → Row → Bool
is row = is_row row.group row.pid

raised_last : (rs : List Row) (r : Row) (es : Entries)
    → raised (rs ++ r ∷ []) es ≡ raised rs (once_more r es)
raised_last [] r es = refl
raised_last (x ∷ xs) r es = ap (once_more x) (raised_last xs r es)

-- one more of a row is counted by each test that it passes
more_tally : (row : Row) (es : Entries) → has_row es row ≡ true → (test : Row → Bool)
    → tally test (counted_in (once_more row es)) ≡ tally test (counted_in es) + cond (test row) 1 0
more_tally row es there test = grind (arith, set_tally)

has_row_is : (r : Row) (es : Entries) → has_row es r ≡ list_any (same_row r) (keys_of es)
has_row_is r [] = refl
has_row_is r (e ∷ es) = grind (arith, has_row_is r es)

-- ---- one row more that is lowered

lowered_last : (rs : List Row) (row : Row) (new cur old : Entries) → IsLowered rs cur old
    → cur ≡ once_more row new → has_row new row ≡ true → IsLowered (rs ++ row ∷ []) new old
lowered_last rs row new cur old was e there =
    grind (arith, more_tally, how_many_append, raised_last, keys-set_value)

-- the first k rows are lowered, and row is the next
module _ (gone : List Row) (k : ℕ) (row : Row) (l : k < length gone)
    (at : row ≡ get_or gone k row) where
  one_more : take (k + 1) gone ≡ take k gone ++ row ∷ []
  one_more = grind (arith, take_more)

  pub lowered_more : (new cur old : Entries) → IsLowered (take k gone) cur old
      → cur ≡ once_more row new → has_row new row ≡ true → IsLowered (take (k + 1) gone) new old
  lowered_more new cur old was e there = subst (λ rs. IsLowered rs new old) (sym one_more)
      (lowered_last (take k gone) row new cur old was e there)

-- ---- one row less

module _ (rs : List Row) (row : Row) (cur old : Entries)
    (was : IsLowered (rs ++ row ∷ []) cur old) where
  counts_one : tally (is row) (counted_in old)
      ≡ tally (is row) (counted_in cur) + (how_many (is row) rs + 1)
  counts_one = grind (arith, how_many_append, was.adds (is row), rows_equal.refl row)

  still_there : has_row cur row ≡ true
  still_there =
      has_row_is row cur ∙ ap (list_any (same_row row)) was.keys ∙ sym (has_row_is row old)
      ∙ sym (stands_is row old) ∙ tally_stands row (counted_in old) (omega (arith, counts_one))

  raised_one : IsLowered rs (once_more row cur) old
  raised_one = grind (arith, more_tally, still_there, how_many_append, raised_last, keys-set_value)

  room_for_one : IsDistinct same_row (keys_of old) → tally (is row) (counted_in old) ≤ max_rows
      → IfSome (lookup (same_row row) cur) (λ n. n < max_rows)
  room_for_one once few =
      let count = count_is row cur (rw was.keys once) in
      by (lookup (same_row row) cur) (omega (arith, counts_one))
    where
      by : (o : Option ℕ) → unwrap_or o 0 < max_rows → IfSome o (λ n. n < max_rows)
      by None l = tt
      by (Some n) l = l

-- the last of the first k rows, which are lowered
module _ (gone : List Row) (k : ℕ) (row : Row) (cur old : Entries) (some : 0 < k)
    (l : k ≤ length gone) (at : row ≡ get_or gone (k - 1) row)
    (was : IsLowered (take k gone) cur old) where
  it_is : IsLowered (take (k - 1) gone ++ row ∷ []) cur old
  it_is = grind (arith, one_more)

  pub last_raised : (new : Entries) → new ≡ once_more row cur
      → (k - 1 ≤ length gone) × IsLowered (take (k - 1) gone) new old
  last_raised new e =
      let raised = raised_one (take (k - 1) gone) row cur old it_is in
      (omega arith, subst (λ es. IsLowered (take (k - 1) gone) es old) (sym e) raised)

  pub room_for_last : IsDistinct same_row (keys_of old)
      → ((r : Row) → tally (is r) (counted_in old) ≤ max_rows)
      → IfSome (lookup (same_row row) cur) (λ n. n < max_rows)
  room_for_last once few = grind (arith, room_for_one, it_is)

-- ---- what they say of all rows of the list

all_pass : (test : Row → Bool) (rs : List Row) → ((r : Row) → test r ≡ true)
    → list_all test rs ≡ true
all_pass test [] h = refl
all_pass test (r ∷ rs) h = grind (arith, all_pass test rs h, h r)

one_fails : (test : Row → Bool) (rs : List Row) (k : ℕ) (row : Row) → k < length rs
    → row ≡ get_or rs k row → test row ≡ false → list_all test rs ≡ false
one_fails test [] k row l at e = grind arith
one_fails test (r ∷ rs) zero row l at e = grind arith
one_fails test (r ∷ rs) (suc k) row l at e =
    grind (arith, one_fails test rs k row (omega arith) at e)

-- where all could be lowered, all are in
all_lowered : (gone : List Row) (new old : Entries) → IsLowered gone new old
    → are_all_in (counted_in old) gone ≡ true
all_lowered gone new old was = grind (arith, all_pass, le-leb)

-- where a row couldn't, it isn't in so often
not_lowered : (gone : List Row) (k : ℕ) (row : Row) (cur old : Entries) → k < length gone
    → row ≡ get_or gone k row → IsLowered (take k gone) cur old → IsDistinct same_row (keys_of old)
    → unwrap_or (lookup (same_row row) cur) 0 ≡ 0 → are_all_in (counted_in old) gone ≡ false
not_lowered gone k row cur old l at was once none =
    let test = is row in
    let count = count_is row cur (rw was.keys once) in
    let split = ap (how_many test) (sym (take-append-drop (k + 1) gone))
    ∙ how_many_append test (take (k + 1) gone) (drop (k + 1) gone) in
    let one = ap (how_many test) (one_more gone k row l at)
    ∙ how_many_append test (take k gone) (row ∷ []) in
    let same = rows_equal.refl row in
    let adds = was.adds test in
    one_fails _ gone k row l at (grind (arith, le-leb))

-- whether all could be lowered tells whether all are in
pub verdict : (gone : List Row) (k : ℕ) (cur old : Entries) → IsDistinct same_row (keys_of old)
    → k ≤ length gone → IsLowered (take k gone) cur old
    → (k < length gone → HoldsAt (λ r. unwrap_or (lookup (same_row r) cur) 0 ≡ 0) gone k)
    → (k == length gone) ≡ are_all_in (counted_in old) gone
verdict gone k cur old once l was ended = by (k == length gone) refl
  where
    by : (b : Bool) → (k == length gone) ≡ b → b ≡ are_all_in (counted_in old) gone
    by true e = grind (arith, eqb-true, take_all, all_lowered)
    by false e =
        let pid : Pid = record { node = []; creation = 0; number = 0 } in
        let some : Row = record { group = []; pid = pid } in
        let row = get_or gone k some in
        let less : k < length gone = grind (arith, eqb-false) in
        let at = get_or_default gone k some row less in
        sym (not_lowered gone k row cur old less at was once (ended less some))

-- ---- before that

-- no row is counted more often than its node has rows
pub row_le_node : (r : Row) (cs : List Counted) → tally (is r) cs ≤ tally (is_of_node r.pid.node) cs
row_le_node r [] = omega arith
row_le_node r (c ∷ cs) = grind (arith, row_le_node r cs)

-- a row that stands alone is in where it is counted
pub one_in : (row : Row) (gone : List Row) (rows : List Counted) (n : ℕ) → length gone ≡ 1
    → row ≡ get_or gone 0 row → n ≡ tally (is row) rows → nat_lt 0 n ≡ are_all_in rows gone
one_in row [] rows n l at is = grind arith
one_in row (x ∷ []) rows n l at is = grind (arith, is, rows_equal.refl x, le-leb, lt-leb)
one_in row (x ∷ y ∷ ys) rows n l at is = grind arith
