-- Rows that come, counted, and what they are more than others.
use Rattle.scope_core.proofs
use proofs.Words
use Words.{AllByRecursion, append_assoc, arith, Bool, cond, Counted, counted_cmp, drop, exact_rows}
use Words.{is_row, Less, List, picked, refl, Rises, Row, row_cmp, rows_total, same_row}
use Words.{same_row_decides, slice_get, Some, suc, tally, tied_itself, zero, [], ℕ, ◌++◌, ◌<◌, ◌∙◌}
use Words.{◌∷◌, ◌≡◌, ◌≢◌, ◌≤◌}
use proofs.Rising.{all_map, once, tally_absent}

-- a row below all of these isn't among them
pub below_none : (row : Row) (cs : List Counted) → AllByRecursion (λ c. row_cmp row c.row ≡ Less) cs
    → tally (is_row row.group row.pid) cs ≡ 0
below_none row cs a =
    let g = row.group in let p = row.pid in
    tally_absent g p cs
    (once g p (record { row = row; count = 0 }) cs ((same_row_decides row row).1 refl) a)

-- where only the first of the rows can be this one, it is counted as the first is, or not at all
pub first_counted : (b : Bool) (row : Row) (rows : List Counted) (c : Counted)
    → Some c ≡ slice_get rows 0 → same_row c.row row ≡ b
    → AllByRecursion (λ d. row_cmp row d.row ≡ Less) (drop 1 rows)
    → cond b c.count 0 ≡ tally (is_row row.group row.pid) rows
first_counted b row [] c e same a = grind arith
first_counted b row (x ∷ xs) c e same a = grind (arith, below_none)

-- what is above a row that isn't lower than another is above that one
above_next : (row : Row) (c d : Counted) → row_cmp c.row row ≢ Less → counted_cmp c d ≡ Less
    → row_cmp row d.row ≡ Less
above_next row c d n l = grind (
  arith,
  rows_total.trans row c.row d.row,
  rows_total.antisymm c.row row,
  exact_rows c.row row,
)

pub above_all : (row : Row) (c : Counted) (cs : List Counted) → row_cmp c.row row ≢ Less
    → AllByRecursion (λ d. counted_cmp c d ≡ Less) cs
    → AllByRecursion (λ d. row_cmp row d.row ≡ Less) cs
above_all row c cs n a = all_map _ _ (λ d. above_next row c d n) cs a

-- ---- a row on, in the loop over rows of which some are more

-- the row is counted among the rows as among the others
abbrev pub IsCountedAs : List Counted → List Counted → Counted → Type 0
IsCountedAs others rows c =
    tally (is_row c.row.group c.row.pid) rows ≡ tally (is_row c.row.group c.row.pid) others

pub rises_drop : (i : ℕ) (cs : List Counted) → Rises counted_cmp cs → Rises counted_cmp (drop i cs)
rises_drop zero cs r = r
rises_drop (suc i) [] r = tt
rises_drop (suc i) (c ∷ cs) r = rises_drop i cs r.1

module _ (row : Row) (rest left others : List Counted)
    (low : (r : Row) → row_cmp r row ≢ Less
    → tally (is_row r.group r.pid) left ≡ tally (is_row r.group r.pid) rest) where
  low_one : (d : Counted) → row_cmp row d.row ≡ Less
      → tally (is_row d.row.group d.row.pid) left ≡ tally (is_row d.row.group d.row.pid) rest
  low_one d l = grind (arith, rows_total)

  -- the rows above it are counted among those left as before
  pub low_all : (ds : List Counted) → AllByRecursion (λ d. row_cmp row d.row ≡ Less) ds
      → AllByRecursion (IsCountedAs others rest) ds → AllByRecursion (IsCountedAs others left) ds
  low_all [] l a = tt
  low_all (d ∷ ds) l a = (low_one d l.0 ∙ a.0, low_all ds l.1 a.1)

  -- and so is the row itself
  pub low_itself : tally (is_row row.group row.pid) left ≡ tally (is_row row.group row.pid) rest
  low_itself = grind (arith, tied_itself, rows_total)

module _ (times : Counted → ℕ) (more : List Counted) (c : Counted) (cs : List Counted) where
  pub picked_more : (n : ℕ) → n ≡ times c → 0 < n
      → (more ++ record { row = c.row; count = n } ∷ []) ++ picked times cs
      ≡ more ++ picked times (c ∷ cs)
  picked_more n e l = grind (arith, append_assoc)

  pub picked_none : (n : ℕ) → n ≡ times c → n ≤ 0
      → more ++ picked times cs ≡ more ++ picked times (c ∷ cs)
  picked_none n e l = grind arith
