-- Rows that may be repeated, counted.
use Rattle.std.specs.Prelude.{◌≡◌, ℕ, ◌<◌, ◌≤◌, List, cond, Option, Some}
use Rattle.std.specs.List.{count_by}
use Rattle.std.specs.Option.{unwrap_or}
use Rattle.std.specs.Map.{lookup}
use Rattle.std.specs.Ordering.{is_eq}
use Rattle.dist_types.specs.declared.row.Row.{Row}
use Rattle.dist_types.specs.Order.{row_cmp}
use Rattle.dist_types.specs.Listing.{same_row}

-- how often the row stands in the list
abbrev pub times : Row → List Row → ℕ
times row rows = count_by (λ r. same_row row r) rows

-- 1 where the two rows are the same
abbrev pub once : Row → Row → ℕ
once r row = cond (same_row r row) 1 0

-- of rows that are asked for each as often as it is asked for, and as it is listed
pub record IsCutTo (asked kept : List Row) (listed : Row → ℕ) : Type 0 where
  pub fewer : (r : Row) → times r kept ≤ times r asked
  pub within : (r : Row) → times r kept ≤ listed r
  pub all : (r : Row) → times r kept < times r asked → times r kept ≡ listed r

-- the count of the row in a tally, if it stands there
abbrev pub count_at : Row → List (Row × ℕ) → Option ℕ
count_at row entries = lookup (λ r. is_eq (row_cmp row r)) entries

-- how often a tally has the row
abbrev pub counted : Row → List (Row × ℕ) → ℕ
counted row entries = unwrap_or (count_at row entries) 0

-- each row that stands in a tally is there once at least
abbrev pub HasSome : List (Row × ℕ) → Type 0
HasSome entries = (row : Row) → count_at row entries ≡ Some 0 → ⊥
