-- The rows of one node, in a map with two indexes.
use Rattle.std.specs.Prelude.{◌≡◌, ℕ, Bool, ◌&&◌, ◌==◌, cond, List, map, Option, None, Some}
use Rattle.std.specs.declared.cmp.Ordering.{Ordering}
use Rattle.std.specs.Ordering.{nat_cmp, ordering_then}
use Rattle.std.specs.Option.{is_some}
use Rattle.std.specs.List.{AllByRecursion, IsDistinct, list_any}
use Rattle.std.specs.Map.{lookup, keys_of}
use Rattle.std.specs.BTreeMap.{BTreeMap}
use Rattle.dist_types.specs.declared.pid.Pid.{Pid}
use Rattle.dist_types.specs.declared.row.Row.{Row}
use Rattle.dist_types.specs.Order.{text_cmp}
use Rattle.dist_types.specs.Listing.{same, same_row}
use Rattle.scope_core.specs.declared.counted.Counted.{Counted}
use Rattle.scope_core.specs.declared.counted.Membership.{Membership}
use Rattle.scope_core.specs.declared.node_row.NodeRow.{NodeRow}
use Rattle.scope_core.specs.declared.process_key.ProcessKey.{ProcessKey}
use Rattle.scope_core.specs.declared.small_map.SmallMap.{SmallMap}
use Rattle.scope_core.specs.SmallMap.{find_in}

-- what tells the process from others of its node
abbrev pub key_of : Pid → ProcessKey
key_of p = record { creation = p.creation; number = p.number }

-- the process of the node with the key
abbrev pub pid_of : List ℕ → ProcessKey → Pid
pid_of node k = record { node = node; creation = k.creation; number = k.number }

-- the row of the node's process with the key in the group
abbrev pub row_at : List ℕ → List ℕ → ProcessKey → Row
row_at node g k = record { group = g; pid = pid_of node k }

-- by the creation and the number
abbrev pub key_cmp : ProcessKey → ProcessKey → Ordering
key_cmp a b = ordering_then (nat_cmp a.creation b.creation) (nat_cmp a.number b.number)

-- the rows of the processes of a group
abbrev pub group_rows : List ℕ → List ℕ → List (ProcessKey × ℕ) → List Counted
group_rows node g ms =
    map (λ m. record { row = row_at node g m.0; count = m.1 }) ms

-- the name of a node, and its rows with their counts, in the order of the map
pub record NodeTable : Type 0 where
  pub node : List ℕ
  pub rows : List Counted

-- the entries of the map, as counted rows
abbrev pub counted_in : List (Row × ℕ) → List Counted
counted_in es = map (λ e. record { row = e.0; count = e.1 }) es

-- a node, and how often each of its rows is counted
pub record NodeCounts : Type 0 where
  pub node : List ℕ
  pub entries : List (Row × ℕ)

-- rows that are kept without the name of their node
abbrev pub rows_at : List ℕ → List (NodeRow × ℕ) → List (Row × ℕ)
rows_at node es = map (λ e. (row_at node e.0.group e.0.process, e.1)) es

-- whether two of these are the same
abbrev pub same_node_row : NodeRow → NodeRow → Bool
same_node_row a b =
    same a.group b.group
    && (a.process.creation == b.process.creation && a.process.number == b.process.number)

-- the row is found with this count or not at all, and the others as before
abbrev pub Writes : Row → Option ℕ → List (Row × ℕ) → List (Row × ℕ) → Type 0
Writes row o old new =
    (r : Row) → lookup (same_row r) new ≡ cond (same_row row r) o (lookup (same_row r) old)

-- counted rows, as entries of a map
abbrev pub entries_in : List Counted → List (Row × ℕ)
entries_in rows = map (λ c. (c.row, c.count)) rows

-- the row of the process in the group, with its count
abbrev pub with_process : Pid → Membership → Counted
with_process p m = record { row = record { group = m.group; pid = p }; count = m.count }

-- whether the row is one of these
abbrev pub has_row : List (Row × ℕ) → Row → Bool
has_row es r = is_some (lookup (same_row r) es)

-- whether the row is one of these, whatever its count
abbrev pub stands : Row → List Counted → Bool
stands r rows = list_any (λ c. same_row c.row r) rows

-- the index holds a group for a process exactly where this says so, if it is kept
abbrev pub Names : (ProcessKey → List ℕ → Bool)
    → Option (BTreeMap ProcessKey (SmallMap (List ℕ) (Unit {0}))) → Type 0
Names says None = Unit {0}
Names says (Some processes) = (k : ProcessKey) (g : List ℕ)
    → is_some (find_in key_cmp text_cmp processes k g) ≡ says k g

-- each row stands once, all are the node's, and both indexes hold exactly them, that by process
-- where it is kept
pub record IsHashed (node : List ℕ) (es : List (Row × ℕ))
    (groups : BTreeMap (List ℕ) (SmallMap ProcessKey ℕ))
    (processes : Option (BTreeMap ProcessKey (SmallMap (List ℕ) (Unit {0})))) : Type 0 where
  pub once : IsDistinct same_row (keys_of es)
  pub own : AllByRecursion (λ e. e.0.pid.node ≡ node) es
  pub by_group : (g : List ℕ) (k : ProcessKey)
      → find_in text_cmp key_cmp groups g k ≡ lookup (same_row (row_at node g k)) es
  pub by_process : Names (λ k g. has_row es (row_at node g k)) processes
