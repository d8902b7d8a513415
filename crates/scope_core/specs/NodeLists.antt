-- The rows of a scope, node by node.
use Rattle.std.specs.Prelude.{◌≡◌, ℕ, ◌<◌, ◌≤◌, List, map}
use Rattle.std.specs.List.{AllByRecursion, IsDistinct, filter, flat_map}
use Rattle.std.specs.Map.{keys_of}
use Rattle.dist_types.specs.Listing.{same, total}
use Rattle.scope_core.specs.declared.counted.Counted.{Counted}
use Rattle.scope_core.specs.Table.{tally, is_of_node, max_rows}
use Rattle.scope_core.specs.HashedRows.{NodeTable}

-- the rows of all nodes
abbrev pub all_rows : List (List ℕ × List Counted) → List Counted
all_rows lists = flat_map (λ e. e.1) lists

-- the rows of the node's processes
abbrev pub of_node : List ℕ → List Counted → List Counted
of_node node rows = filter (λ c. is_of_node node c.row) rows

-- each row is counted, no node has more than it may, and all are of the node
pub record IsNodeList (node : List ℕ) (rows : List Counted) : Type 0 where
  pub counted : AllByRecursion (λ c. 0 < c.count) rows
  pub few : (n : List ℕ) → tally (is_of_node n) rows ≤ max_rows
  pub own : AllByRecursion (λ c. c.row.pid.node ≡ node) rows

-- so many rows the node has, each as often as it is counted
pub record IsNodeRows (n : ℕ) (table : NodeTable) : Type 0 where
  pub total : n ≡ total (λ c. c.count) table.rows
  pub list : IsNodeList table.node table.rows

-- the rows of each node
abbrev pub rows_by_node : List (List ℕ × NodeTable) → List (List ℕ × List Counted)
rows_by_node es = map (λ e. (e.0, e.1.rows)) es

-- each node stands once, with rows of its own
pub record AreNodeLists (es : List (List ℕ × NodeTable)) : Type 0 where
  pub each : AllByRecursion (λ e. (e.1.node ≡ e.0) × IsNodeList e.0 e.1.rows) es
  pub apart : IsDistinct same (keys_of es)
