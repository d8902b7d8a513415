-- What a message has to meet before the table of its scope is asked, and what messages make of a
-- scope.
use Rattle.std.specs.Prelude.{◌≡◌, ℕ, ◌+◌, ◌-◌, ◌/◌, ◌++◌, Bool, true, false, ◌||◌, cond, nat_le}
use Rattle.std.specs.Prelude.{List, [], ◌∷◌, length, Option, Some, None}
use Rattle.dist_types.specs.declared.pid.Pid.{Pid}
use Rattle.dist_types.specs.declared.row.Row.{Row}
use Rattle.dist_types.specs.declared.change.GroupChange.{GroupChange}
use Rattle.dist_types.specs.Difference.{IsDifference}
use Rattle.dist_types.specs.Listing.{IsRowListing, max_rows}
use Rattle.scope_core.specs.Table.{Table, count_of, local_count, local_total, node_total}
use Rattle.scope_core.specs.Calls.{Counts, are_counted, count_after_add, count_after_sync}
use Rattle.scope_core.specs.Calls.{count_after_take}
use Rattle.link_frames.specs.declared.message.Message.TheVariants as said
use Rattle.link_frames.specs.declared.part.PartKind.{PartKind}
use Rattle.link_frames.specs.declared.part.PartKind.TheVariants as kinds
use Rattle.link_frames.specs.declared.part.Message2.{Message2}
use Rattle.link_frames.specs.declared.part.Message2.TheVariants as frames
use Rattle.policy_audit.specs.OutFrame.{OutFrame}
use Rattle.policy_audit.specs.declared.change.Change.{Change}
use Rattle.policy_audit.specs.declared.rule.Rule.{Rule}
use Rattle.policy_audit.specs.declared.rule.Rule.TheVariants as rule
use Rattle.policy_audit.specs.History.{History}
use Rattle.policy_audit.specs.Changes.{if_some}
use Rattle.policy_audit.specs.Checks.{Check, is_shown, runs, hears_in, are_from, is_in_order}
use Rattle.policy_audit.specs.Owed.{wide}
use Rattle.node_core.specs.declared.fault.CoreFault.{CoreFault}
use Rattle.node_core.specs.declared.fault.CoreFault.TheVariants as faults
use Rattle.node_core.specs.declared.running.Running.{Running}
use Rattle.node_core.specs.ScopeFacts.{is_number, with_number}
use Rattle.node_core.specs.Telling.{said_in}

-- the rules for a part on link l behind the scope, but for those that the table tells
abbrev pub early_part : History → ℕ → PartKind → List ℕ → ℕ → List Row → List Check
early_part h l kinds.Sync s number rows =
    is_in_order h l kinds.Sync s number ∷ are_from h l rows ∷ []
early_part h l kinds.Join s number rows =
    hears_in h l s ∷ is_in_order h l kinds.Join s number ∷ are_from h l rows ∷ []
early_part h l kinds.Leave s number rows =
    hears_in h l s ∷ is_in_order h l kinds.Leave s number ∷ are_from h l rows ∷ []

-- the rules for a message on link l, but for those that the table tells
abbrev pub early_checks : History → ℕ → Message2 → List Check
early_checks h l (frames.Discover s) = is_shown h l ∷ runs h s ∷ []
early_checks h l (frames.Part kind s number last rows) =
    is_shown h l ∷ runs h s ∷ early_part h l kind s number rows
early_checks h l (frames.Down s) = is_shown h l ∷ runs h s ∷ []

-- ---- what messages make of a scope

-- the scope has these counts, and the links of these numbers are heard and told
pub record HasBecome (old new : Running) (count : List ℕ → Pid → ℕ)
    (hears tells : List ℕ) : Type 0 where
  pub scope : new.scope ≡ old.scope
  pub rows : Counts old.table new.table count
  pub heard : new.heard.items ≡ hears
  pub told : new.told.items ≡ tells

-- the change of a scope from these counts to those, perhaps none
pub record IsChangeIn (s : List ℕ) (old new : List ℕ → Pid → ℕ) (cs : List Change) : Type 0 where
  pub groups : List GroupChange
  pub difference : IsDifference old new groups
  pub changes : cs ≡ if_some s groups

-- the rule that these rows of node n break by the table: all that came of a message of this kind,
-- where the node may have so many
abbrev pub table_refusal : Table → List ℕ → PartKind → List Row → ℕ → Option Rule
table_refusal t n kinds.Sync rows limit =
    cond (nat_le (length rows) limit) None (Some rule.RowsFull)
table_refusal t n kinds.Join rows limit =
    cond (nat_le (node_total t n + length rows) limit) None (Some rule.RowsFull)
table_refusal t n kinds.Leave rows limit = cond (are_counted t rows) None (Some rule.NotListed)

-- why rows were not followed: they break that rule, or memory is wanting
abbrev pub IsRowFault : Option Rule → CoreFault → Type 0
IsRowFault broken (faults.Refused r) = broken ≡ Some r
IsRowFault broken faults.OutOfMemory = Unit {0}

-- the counts after all rows of a message of this kind, of node n
abbrev pub count_after : PartKind → Table → List ℕ → List Row → List ℕ → Pid → ℕ
count_after kinds.Sync t n rows = count_after_sync t n rows
count_after kinds.Join t n rows = count_after_add t rows
count_after kinds.Leave t n rows = count_after_take t rows

-- the links that are heard after it, of these and the one of this number
abbrev pub heard_after : PartKind → ℕ → List ℕ → List ℕ
heard_after kinds.Sync l numbers = with_number l numbers
heard_after kind l numbers = numbers

-- the same after its part, the last or another
abbrev pub count_with : Bool → PartKind → Table → List ℕ → List Row → List ℕ → Pid → ℕ
count_with true kind t n rows = count_after kind t n rows
count_with false kind t n rows = count_of t

abbrev pub heard_with : Bool → PartKind → ℕ → List ℕ → List ℕ
heard_with true kind l numbers = heard_after kind l numbers
heard_with false kind l numbers = numbers

-- ---- the answer to a Discover

-- all own rows go into one message, or into parts
abbrev pub can_be_told : Table → Bool → Bool
can_be_told t parted = parted || nat_le (local_total t) max_rows

-- how many frames a Sync of so many rows has, in parts or whole
abbrev pub sync_frames : Bool → ℕ → ℕ
sync_frames parted rows = cond parted ((rows - 1) / max_rows + 1) 1

-- the frames of a Sync with all own rows, in parts or whole
pub record AreSyncFrames (r : Running) (s : List ℕ) (parted : Bool)
    (frames : List OutFrame) : Type 0 where
  pub rows : List Row
  pub own : IsRowListing (local_count r.table) rows
  pub frames_are : frames ≡ said_in (said.Sync s rows) parted

-- the frames for a Discover of s on link l: a Sync with all own rows, and then a Discover where the
-- peer isn't heard
pub record AnswersDiscover (r : Running) (parted : Bool) (l : ℕ) (s : List ℕ)
    (frames : List OutFrame) : Type 0 where
  pub rows : List Row
  pub own : IsRowListing (local_count r.table) rows
  pub frames_are : frames
      ≡ said_in (said.Sync s rows) parted
      ++ cond (is_number l r.heard.items) [] (wide (said.Discover s) ∷ [])
