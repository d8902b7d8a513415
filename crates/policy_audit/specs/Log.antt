-- The audit as contracts see it, and why it takes no further entry.
use Rattle.std.specs.Prelude.{◌≡◌, ℕ, ◌-◌, ◌≤◌, ◌<◌, ◌==◌, nat_le, Bool, false, cond, List, reverse, length, Option, None, not, slice_get, drop}
use Rattle.dist_types.specs.Difference.{is_empty}
use Rattle.policy_audit.specs.declared.entry.Entry.{Entry}
use Rattle.policy_audit.specs.declared.audit.AuditFault.{AuditFault}
use Rattle.policy_audit.specs.declared.audit.AuditFault.TheVariants as faults

-- the most entries, all entries with the newest first, how many of the oldest were handed out, and
-- whether there is memory for one more
pub record Log : Type 0 where
  pub limit : ℕ
  pub entries : List Entry
  pub forgotten : ℕ
  pub has_room : Bool

-- the entry of that number, counted from 1 and from the oldest
abbrev pub entry_at : ℕ → List Entry → Option Entry
entry_at number entries = cond (number == 0) None (slice_get (reverse entries) (number - 1))

-- the same, where it is kept
abbrev pub kept_at : ℕ → Log → Option Entry
kept_at number log = cond (nat_le number log.forgotten) None (entry_at number log.entries)

-- the entries behind that number, the oldest first
abbrev pub later_than : ℕ → List Entry → List Entry
later_than number entries = drop number (reverse entries)

-- the entry changed rows
abbrev pub changes_rows : Entry → Bool
changes_rows e = not (is_empty e.change)

-- why no entry is taken. Want of memory comes last, and not where there is room.
abbrev pub IsAuditFault : AuditFault → Log → Type 0
IsAuditFault faults.EntriesFull log = log.limit ≤ length log.entries
IsAuditFault faults.OutOfMemory log = (length log.entries < log.limit) × (log.has_room ≡ false)
