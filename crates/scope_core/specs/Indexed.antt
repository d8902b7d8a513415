-- The nodes of each group are those that have rows of it.
use Rattle.std.specs.Prelude.{◌≡◌, ℕ, Bool, false, cond, ◌&&◌, nat_lt, List}
use Rattle.std.specs.List.{list_any}
use Rattle.dist_types.specs.declared.pid.Pid.{Pid}
use Rattle.dist_types.specs.declared.row.Row.{Row}
use Rattle.dist_types.specs.declared.change.GroupChange.{GroupChange}
use Rattle.dist_types.specs.Listing.{same, same_pid}
use Rattle.scope_core.specs.declared.counted.Counted.{Counted}
use Rattle.scope_core.specs.Table.{tally}
use Rattle.scope_core.specs.GroupNodes.{times_named}

-- whether this is a row of the group, and of a process of the node
abbrev pub is_there : List ℕ → List ℕ → Row → Bool
is_there g n r = same r.group g && same r.pid.node n

-- whether a process of the node is in the group
abbrev pub has_members : List ℕ → List ℕ → List Counted → Bool
has_members g n rows = nat_lt 0 (tally (is_there g n) rows)

-- whether the process is in a group
abbrev pub has_groups : Pid → List Counted → Bool
has_groups p rows = nat_lt 0 (tally (λ r. same_pid r.pid p) rows)

-- each group names the nodes with a process in it, each once, and no other
abbrev pub IsIndexed : List Counted → List (List ℕ × List (List ℕ)) → Type 0
IsIndexed rows index = (g n : List ℕ) → times_named index g n ≡ cond (has_members g n rows) 1 0

-- whether the group is one of those that changed
abbrev pub is_named : List ℕ → List GroupChange → Bool
is_named g changes = list_any (λ c. same c.group g) changes

-- where a group isn't one of those that changed, the node has a process in it or has none, as
-- before
abbrev pub Covers : List GroupChange → List ℕ → List Counted → List Counted → Type 0
Covers changes node old new =
    (g : List ℕ) → is_named g changes ≡ false → has_members g node new ≡ has_members g node old
