-- What the calls of a table change, and when they are refused.
use Rattle.std.specs.Prelude.{◌≡◌, ℕ, ◌+◌, ◌-◌, ◌≤◌, ◌<◌, Bool, true, false, cond, nat_lt, nat_le}
use Rattle.std.specs.Prelude.{List, length}
use Rattle.std.specs.List.{list_any, list_all}
use Rattle.dist_types.specs.declared.pid.Pid.{Pid}
use Rattle.dist_types.specs.declared.row.Row.{Row}
use Rattle.dist_types.specs.declared.change.GroupChange.{GroupChange}
use Rattle.scope_core.specs.declared.fault.TableFault.{TableFault}
use Rattle.scope_core.specs.declared.fault.TableFault.TheVariants.{RowsFull, NotJoined, NotListed}
use Rattle.scope_core.specs.declared.fault.TableFault.TheVariants.{OutOfMemory}
use Rattle.dist_types.specs.Listing.{same, same_pid, same_row, occurrences, mentions}
use Rattle.dist_types.specs.Difference.{IsDifference}
use Rattle.scope_core.specs.Table.{Table, count_of, node_total, local_total}
use Rattle.scope_core.specs.Added.{row_in}

-- new is of the same node as old, and counts what count says
pub record Counts (old new : Table) (count : List ℕ → Pid → ℕ) : Type 0 where
  pub own : new.own ≡ old.own
  pub counts : (g : List ℕ) (p : Pid) → count_of new g p ≡ count g p

-- nothing is counted
abbrev pub no_count : List ℕ → Pid → ℕ
no_count g p = 0

-- one more in the group for each mention
abbrev pub count_after_join : Table → List ℕ → List Pid → List ℕ → Pid → ℕ
count_after_join t g ps h p = count_of t h p + cond (same h g) (mentions p ps) 0

-- one less in the group for each mention, as far as the process is joined
abbrev pub count_after_leave : Table → List ℕ → List Pid → List ℕ → Pid → ℕ
count_after_leave t g ps h p = count_of t h p - cond (same h g) (mentions p ps) 0

-- the process q is in no group
abbrev pub count_after_exit : Table → Pid → List ℕ → Pid → ℕ
count_after_exit t q g p = cond (same_pid p q) 0 (count_of t g p)

-- the processes of the node are in no group
abbrev pub count_after_drop : Table → List ℕ → List ℕ → Pid → ℕ
count_after_drop t n g p = cond (same p.node n) 0 (count_of t g p)

-- the processes of the node are in groups as often as the rows say
abbrev pub count_after_sync : Table → List ℕ → List Row → List ℕ → Pid → ℕ
count_after_sync t n rows g p =
    cond (same p.node n) (occurrences same_row (row_in g p) rows) (count_of t g p)

-- one more for each of the rows
abbrev pub count_after_add : Table → List Row → List ℕ → Pid → ℕ
count_after_add t rows g p = count_of t g p + occurrences same_row (row_in g p) rows

-- one less for each of the rows
abbrev pub count_after_take : Table → List Row → List ℕ → Pid → ℕ
count_after_take t rows g p = count_of t g p - occurrences same_row (row_in g p) rows

-- the changes are the difference between two tables
abbrev pub IsChange : Table → Table → List GroupChange → Type 0
IsChange old new changes = IsDifference (count_of old) (count_of new) changes

-- why nothing was joined
abbrev pub IsJoinFault : Table → List Pid → ℕ → TableFault → Type 0
IsJoinFault t ps limit RowsFull = limit < local_total t + length ps
IsJoinFault t ps limit NotJoined = ⊥
IsJoinFault t ps limit NotListed = ⊥
IsJoinFault t ps limit OutOfMemory = local_total t + length ps ≤ limit

-- whether one of these processes is in the group
abbrev pub is_any_joined : Table → List ℕ → List Pid → Bool
is_any_joined t g ps = list_any (λ p. nat_lt 0 (count_of t g p)) ps

-- why nothing was left
abbrev pub IsLeaveFault : Table → List ℕ → List Pid → TableFault → Type 0
IsLeaveFault t g ps RowsFull = ⊥
IsLeaveFault t g ps NotJoined = is_any_joined t g ps ≡ false
IsLeaveFault t g ps NotListed = ⊥
IsLeaveFault t g ps OutOfMemory = is_any_joined t g ps ≡ true

-- why the rows of a peer were not replaced
abbrev pub IsSyncFault : List Row → ℕ → TableFault → Type 0
IsSyncFault rows limit RowsFull = limit < length rows
IsSyncFault rows limit NotJoined = ⊥
IsSyncFault rows limit NotListed = ⊥
IsSyncFault rows limit OutOfMemory = length rows ≤ limit

-- why rows of the node were not added
abbrev pub IsAddFault : Table → List ℕ → List Row → ℕ → TableFault → Type 0
IsAddFault t n rows limit RowsFull = limit < node_total t n + length rows
IsAddFault t n rows limit NotJoined = ⊥
IsAddFault t n rows limit NotListed = ⊥
IsAddFault t n rows limit OutOfMemory = node_total t n + length rows ≤ limit

-- whether each of the rows stands among them at most as often as it is counted
abbrev pub are_counted : Table → List Row → Bool
are_counted t rows =
    list_all (λ r. nat_le (occurrences same_row r rows) (count_of t r.group r.pid)) rows

-- why rows were not taken
abbrev pub IsTakeFault : Table → List Row → TableFault → Type 0
IsTakeFault t rows RowsFull = ⊥
IsTakeFault t rows NotJoined = ⊥
IsTakeFault t rows NotListed = are_counted t rows ≡ false
IsTakeFault t rows OutOfMemory = are_counted t rows ≡ true
