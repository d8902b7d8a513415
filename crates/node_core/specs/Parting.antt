-- Rows that leave scopes together.
use Rattle.std.specs.Prelude.{◌≡◌, ℕ, nat_eq, List, not, map}
use Rattle.dist_types.specs.declared.row.Row.{Row}
use Rattle.dist_types.specs.declared.change.GroupChange.{GroupChange}
use Rattle.policy_audit.specs.Contents.{row}
use Rattle.std.specs.List.{filter, flat_map, AllZip}
use Rattle.dist_types.specs.declared.pid.Pid.{Pid}
use Rattle.dist_types.specs.Difference.{is_empty, IsDifference}
use Rattle.scope_core.specs.Table.{Table, count_of}
use Rattle.scope_core.specs.Calls.{Counts, no_count, count_after_exit, count_after_drop}
use Rattle.policy_audit.specs.declared.change.Change.{Change}
use Rattle.node_core.specs.declared.changes.Leaving.{Leaving}
use Rattle.node_core.specs.declared.changes.Leaving.TheVariants as leaving
use Rattle.node_core.specs.declared.running.Running.{Running}

-- how often each is counted without the rows that leave
abbrev pub count_but : Leaving → Table → List ℕ → Pid → ℕ
count_but (leaving.Process p) t = count_after_exit t p.now
count_but (leaving.Node n) t = count_after_drop t n.now
count_but leaving.All t = no_count

-- the change of one scope, perhaps none, where these counts are left of a table
pub record IsParting (left : Table → List ℕ → Pid → ℕ) (r : Running) (c : Change) : Type 0 where
  pub scope : c.scope ≡ r.scope
  pub groups : IsDifference (count_of r.table) (left r.table) c.groups

-- the changes of all scopes, but those that have none
pub record ArePartings (left : Table → List ℕ → Pid → ℕ) (rs : List Running)
    (cs : List Change) : Type 0 where
  pub all : List Change
  pub each : AllZip (IsParting left) rs all
  pub some : cs ≡ filter (λ c. not (is_empty c.groups)) all

-- the scope after these rows have left
pub record HasParted (away : Leaving) (old new : Running) : Type 0 where
  pub scope : new.scope ≡ old.scope
  pub rows : Counts old.table new.table (count_but away old.table)
  pub heard : new.heard.items ≡ old.heard.items
  pub told : new.told.items ≡ old.told.items

-- the numbers but this one
abbrev pub without : ℕ → List ℕ → List ℕ
without l numbers = filter (λ k. not (nat_eq k l)) numbers

-- the scope after link l of node n is gone: nobody is heard or told over it, and the rows of the
-- node have left
pub record IsCutOff (l : ℕ) (n : List ℕ) (old new : Running) : Type 0 where
  pub scope : new.scope ≡ old.scope
  pub rows : Counts old.table new.table (count_after_drop old.table n)
  pub heard : new.heard.items ≡ without l old.heard.items
  pub told : new.told.items ≡ without l old.told.items

-- the rows that leave by changes of groups
abbrev pub rows_left : List GroupChange → List Row
rows_left groups = flat_map (λ c. map (row c.group) c.left) groups
