-- What is read off the rows, in their order.
use Rattle.std.specs.Prelude.{◌≡◌, ℕ, ◌-◌, Bool, true, cond, not, ◌&&◌, nat_lt, List, [], ◌∷◌}
use Rattle.std.specs.Prelude.{Option, Some, None, slice_get, length, replicate}
use Rattle.std.specs.List.{filter, flat_map}
use Rattle.dist_types.specs.declared.change.GroupChange.{GroupChange}
use Rattle.scope_core.specs.declared.counted.Counted.{Counted}
use Rattle.dist_types.specs.declared.pid.Pid.{Pid}
use Rattle.dist_types.specs.Listing.{same, spread, IsPidListing}
use Rattle.dist_types.specs.Difference.{change_unless_empty, IsDifference}
use Rattle.scope_core.specs.Table.{is_row, tally}

-- whether this is a row of the group
abbrev pub is_in : List ℕ → Counted → Bool
is_in g c = same c.row.group g

-- whether the group is another than the last
abbrev pub differs : Option (List ℕ) → List ℕ → Bool
differs None g = true
differs (Some h) g = not (same h g)

-- the last of the groups
abbrev pub last_of : List (List ℕ) → Option (List ℕ)
last_of gs = slice_get gs (length gs - 1)

-- the groups of the rows that are counted, each where it differs from the last
abbrev pub heads : Option (List ℕ) → List Counted → List (List ℕ)
heads last [] = []
heads last (c ∷ cs) =
    cond (nat_lt 0 c.count && differs last c.row.group) (c.row.group ∷ heads (Some c.row.group) cs)
    (heads last cs)

-- the processes of the rows of the group g, each as often as it is counted
abbrev pub pids_in : List ℕ → List Counted → List Pid
pids_in g rows = spread (λ c. c.row.pid) (λ c. c.count) (filter (is_in g) rows)

-- the changes where the process leaves the groups, each as often as it is counted there
abbrev pub changes_left_by : List Counted → Pid → List (List ℕ) → List GroupChange
changes_left_by rows p gs =
    flat_map (λ g. change_unless_empty g (replicate (tally (is_row g p) rows) p) []) gs

-- the changes are each difference in which some rows leave, and others join
abbrev pub Tells : List Counted → List Counted → List GroupChange → Type 0
Tells gone joined changes = (before after : List ℕ → Pid → ℕ)
    → ((g : List ℕ) (p : Pid) → before g p - after g p ≡ tally (is_row g p) gone)
    → ((g : List ℕ) (p : Pid) → after g p - before g p ≡ tally (is_row g p) joined)
    → IsDifference before after changes

-- all processes of the group leave it
pub record IsEmptied (rows : List Counted) (change : GroupChange) : Type 0 where
  pub left : IsPidListing (λ p. tally (is_row change.group p) rows) change.left
  pub none : change.joined ≡ []
