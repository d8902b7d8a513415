-- Own processes that join and leave groups.
use Rattle.std.specs.Prelude.{◌≡◌, ℕ, ◌+◌, ◌<◌, ◌==◌, ◌&&◌, cond, not, nat_le, min, false, List, []}
use Rattle.std.specs.Prelude.{◌∷◌, map, length}
use Rattle.std.specs.List.{list_all}
use Rattle.dist_types.specs.declared.pid.Pid.{Pid}
use Rattle.dist_types.specs.declared.change.GroupChange.{GroupChange}
use Rattle.dist_types.specs.Difference.{IsDifference}
use Rattle.dist_types.specs.Listing.{listing, max_rows, mentions}
use Rattle.dist_types.specs.Order.{pid_cmp}
use Rattle.link_frames.specs.declared.message.Message.{Message}
use Rattle.link_frames.specs.declared.message.Message.TheVariants as said
use Rattle.scope_core.specs.declared.fault.TableFault.{TableFault}
use Rattle.scope_core.specs.declared.fault.TableFault.TheVariants as fault
use Rattle.scope_core.specs.Table.{Table, count_of, local_count, local_total}
use Rattle.scope_core.specs.Calls.{Counts, is_any_joined}
use Rattle.policy_audit.specs.declared.change.Change.{Change}
use Rattle.policy_audit.specs.declared.rule.Rule.TheVariants as rule
use Rattle.policy_audit.specs.History.{History}
use Rattle.policy_audit.specs.Own.{is_local, lives}
use Rattle.policy_audit.specs.Changes.{if_some}
use Rattle.policy_audit.specs.Checks.{Check, unless}
use Rattle.policy_audit.specs.Contents.{row}
use Rattle.node_core.specs.declared.fault.CoreFault.{CoreFault}
use Rattle.node_core.specs.declared.fault.CoreFault.TheVariants as faults
use Rattle.node_core.specs.declared.running.Running.{Running}
use Rattle.node_core.specs.Links.{KeptLink, is_any_in, unroomed, prepared_for}
use Rattle.node_core.specs.Telling.{said_in, said_to}

-- the rules for processes that join a group, where a scope may have so many own rows, but for those
-- of the scope and of its other rows
abbrev pub own_checks : History → List Pid → ℕ → List Check
own_checks h ps most =
    unless (list_all (is_local h) ps) rule.NotLocal
    ∷ unless (list_all (lives h) ps) rule.NoProcess
    ∷ unless (nat_le (length ps) most) rule.RowsFull
    ∷ []

-- the Join of these processes
abbrev pub join_of : List ℕ → List ℕ → List Pid → Message
join_of s g ps = said.Join s (map (row g) (listing pid_cmp (λ p. mentions p ps) ps))

-- the Leave of those that a leave of these processes takes
abbrev pub leave_of : Running → List ℕ → List Pid → Message
leave_of r g ps =
    said.Leave r.scope
    (map (row g) (listing pid_cmp (λ p. min (mentions p ps) (local_count r.table g p)) ps))

-- the message is prepared for the links that are told of the scope, if it is said
abbrev pub IsPrepared : Message → Running → List KeptLink → List KeptLink → Type 0
IsPrepared m r old new =
    map unroomed new
    ≡ map (λ x. unroomed (prepared_for (said_to r.told.items m) (said_in m) x)) old

-- this is what changes in one scope where rows come to be counted so
pub record IsOwnChange (r : Running) (count : List ℕ → Pid → ℕ) (cs : List Change) : Type 0 where
  pub groups : List GroupChange
  pub difference : IsDifference (count_of r.table) count groups
  pub changes : cs ≡ if_some r.scope groups

-- one scope after its rows have changed, and nothing else of it
pub record IsMovedBy (count : List ℕ → Pid → ℕ) (old new : Running)
    (cs : List Change) : Type 0 where
  pub scope : new.scope ≡ old.scope
  pub heard : new.heard.items ≡ old.heard.items
  pub told : new.told.items ≡ old.told.items
  pub rows : Counts old.table new.table count
  pub change : IsOwnChange old count cs

-- the rule that a fault of a table is
abbrev pub fault_of : TableFault → CoreFault
fault_of fault.RowsFull = faults.Refused rule.RowsFull
fault_of fault.NotJoined = faults.Refused rule.NotJoined
fault_of fault.NotListed = faults.Refused rule.NotListed
fault_of fault.OutOfMemory = faults.OutOfMemory

-- why processes did not join, where the scope may have so many own rows
abbrev pub IsJoinRefusal : Table → List Pid → ℕ → CoreFault → Type 0
IsJoinRefusal t ps most (faults.Refused r) =
    (r ≡ rule.RowsFull) × (most < local_total t + length ps)
IsJoinRefusal t ps most faults.OutOfMemory = Unit {0}

-- the most own rows that a scope may have, on a node of this version, told to the links of these
-- numbers: those of one message, where the node knows no parts or one of the links takes none
abbrev pub own_most : ℕ → List ℕ → List KeptLink → ℕ
own_most version told links =
    cond (version == 2 && not (is_any_in false told links)) 65536 max_rows

-- why processes did not leave
abbrev pub IsLeaveRefusal : Table → List ℕ → List Pid → CoreFault → Type 0
IsLeaveRefusal t g ps (faults.Refused r) = (r ≡ rule.NotJoined) × (is_any_joined t g ps ≡ false)
IsLeaveRefusal t g ps faults.OutOfMemory = Unit {0}
