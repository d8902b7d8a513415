-- A table is a count for each group and process.
use Rattle.std.specs.Prelude.{◌≡◌, ℕ, ◌≤◌, ◌<◌, Bool, cond, ◌&&◌, List}
use Rattle.std.specs.List.{AllByRecursion}
use Rattle.std.specs.declared.cmp.Ordering.{Ordering}
use Rattle.dist_types.specs.declared.pid.Pid.{Pid}
use Rattle.dist_types.specs.declared.row.Row.{Row}
use Rattle.dist_types.specs.Order.{row_cmp}
use Rattle.scope_core.specs.declared.counted.Counted.{Counted}
use Rattle.dist_types.specs.Listing.{same, same_pid, total, Rises}
use Rattle.scope_core.specs.Kept.{KeptLists, AreListings}

-- the name of the own node, and the counted rows in some order
pub record Table : Type 0 where
  pub own : List ℕ
  pub rows : List Counted

-- the most rows that the processes of one node may have, repeats included, so that a count fits its
-- field
abbrev pub max_rows : ℕ
max_rows = 4294967295

-- whether this is the row of the group g and the process p
abbrev pub is_row : List ℕ → Pid → Row → Bool
is_row g p r = same r.group g && same_pid r.pid p

-- whether this is a row of a process of the node
abbrev pub is_of_node : List ℕ → Row → Bool
is_of_node node r = same r.pid.node node

-- the counts of the rows that pass the test, added up
abbrev pub tally : (Row → Bool) → List Counted → ℕ
tally test rows = total (λ c. cond (test c.row) c.count 0) rows

-- how often the process is in the group
abbrev pub count_of : Table → List ℕ → Pid → ℕ
count_of t g p = tally (is_row g p) t.rows

-- the same of the own processes alone
abbrev pub local_count : Table → List ℕ → Pid → ℕ
local_count t g p = cond (same p.node t.own) (count_of t g p) 0

-- how often the processes of the node are in groups, all groups together
abbrev pub node_total : Table → List ℕ → ℕ
node_total t node = tally (is_of_node node) t.rows

-- how often the own processes are in groups, all groups together
abbrev pub local_total : Table → ℕ
local_total t = tally (is_of_node t.own) t.rows

-- rows by group and process, whatever their counts
abbrev pub counted_cmp : Counted → Counted → Ordering
counted_cmp c d = row_cmp c.row d.row

-- each of the rows is counted
abbrev pub AreCounted : List Counted → Type 0
AreCounted rows = AllByRecursion (λ c. 0 < c.count) rows

-- the rows rise, each is counted, and no node has more than it may
pub record IsKept (rows : List Counted) : Type 0 where
  pub rises : Rises counted_cmp rows
  pub counted : AllByRecursion (λ c. 0 < c.count) rows
  pub few : (node : List ℕ) → tally (is_of_node node) rows ≤ max_rows

-- total is how many rows the own processes have, and no more than they may; each listing that is
-- kept is right
pub record IsHeld (own : List ℕ) (total_rows : ℕ) (rows : List Counted)
    (kept : KeptLists) : Type 0 where
  pub few : total_rows ≤ max_rows
  pub total : total_rows ≡ tally (is_of_node own) rows
  pub listed : AreListings (λ g p. tally (is_row g p) rows) kept
