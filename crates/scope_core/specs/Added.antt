-- Rows that are put in, and taken.
use Rattle.std.specs.Prelude.{◌≡◌, ℕ, ◌+◌, ◌≤◌, Bool, not, nat_le, List, map}
use Rattle.std.specs.List.{filter, flat_map, list_all}
use Rattle.dist_types.specs.declared.pid.Pid.{Pid}
use Rattle.dist_types.specs.declared.row.Row.{Row}
use Rattle.dist_types.specs.declared.change.GroupChange.{GroupChange}
use Rattle.scope_core.specs.declared.counted.Counted.{Counted}
use Rattle.dist_types.specs.Listing.{how_many, same, same_row, occurrences}
use Rattle.scope_core.specs.Table.{tally, is_row, is_of_node, max_rows}

-- the row of the process in the group
abbrev pub row_in : List ℕ → Pid → Row
row_in g p = record { group = g; pid = p }

-- the rows without their counts
abbrev pub bare_rows : List Counted → List Row
bare_rows rows = map (λ c. c.row) rows

-- the rows of the processes of other nodes
abbrev pub without_node : List ℕ → List Counted → List Counted
without_node node rows = filter (λ c. not (same c.row.pid.node node)) rows

-- whether each row of the list stands in it at most as often as it is counted
abbrev pub are_all_in : List Counted → List Row → Bool
are_all_in rows gone =
    list_all (λ r. nat_le (occurrences same_row r gone) (tally (is_row r.group r.pid) rows)) gone

-- new has just these rows more than old
abbrev pub Adds : List Row → List Counted → List Counted → Type 0
Adds rows old new = (test : Row → Bool) → tally test new ≡ tally test old + how_many test rows

-- new has just these counted rows more than old
abbrev pub Joins : List Counted → List Counted → List Counted → Type 0
Joins more old new = (test : Row → Bool) → tally test new ≡ tally test old + tally test more

-- with these rows too no node has more than it may
abbrev pub HasRoomFor : List Row → List Counted → Type 0
HasRoomFor rows old =
    (node : List ℕ) → tally (is_of_node node) old + how_many (is_of_node node) rows ≤ max_rows

-- the rows of what left
abbrev pub rows_left : List GroupChange → List Row
rows_left changes = flat_map (λ c. map (row_in c.group) c.left) changes

-- the rows of what joined
abbrev pub rows_joined : List GroupChange → List Row
rows_joined changes = flat_map (λ c. map (row_in c.group) c.joined) changes
