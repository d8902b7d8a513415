-- How far a ledger has looked, and where it goes on.
use Rattle.std.specs.Prelude.{◌≡◌, ℕ, ◌≤◌, ◌<◌, ◌^◌, ◌==◌, cond, List, [], ◌++◌, reverse}
use Rattle.policy_audit.specs.declared.opening.Opening.{Opening}
use Rattle.policy_audit.specs.declared.entry.Entry.{Entry}
use Rattle.policy_audit.specs.History.{History, past, audited, creation, entered}
use Rattle.policy_audit.specs.Policy.{history, IsLegalIn}
use Rattle.node_core.specs.Recorded.{Recorded}
use Rattle.pg_ledger.specs.Telling.{Told, told_of}

-- h is what the history k was when its audit had these entries alone, the newest first
pub record IsEarlier (h k : History) : Type 0 where
  pub before : List Entry
  pub since : List Entry
  pub audit : audited k.entries ≡ since ++ before
  pub is : h ≡ history k.opening before

-- h was the node's history once, and the node keeps all entries since
pub record Keeps (node : Recorded) (h : History) : Type 0 where
  pub earlier : IsEarlier h node.history
  pub kept : node.forgotten ≤ entered h.entries

-- who was told of h goes on behind it, and in a life of another creation at its beginning
abbrev pub goes_on_at : ℕ → History → History → History
goes_on_at life h k = cond (life == creation k) h (past k.opening [])

-- this was told of h, in the life of that creation, and of where it goes on the node keeps the rest
pub record IsBehind (t : Told) (life : ℕ) (h : History) (node : Recorded) : Type 0 where
  pub told : t ≡ told_of h
  pub kept : Keeps node (goes_on_at life h node.history)

-- it is told of a history that the node had once, or has now, and can go on there
pub record IsBetween (t : Told) (node : Recorded) : Type 0 where
  pub once : History
  pub told : t ≡ told_of once
  pub kept : Keeps node once

-- these entries of an audit more are noted, the oldest first, whatever came before them
abbrev pub NotesAll : List Entry → Told → Told → Type 0
NotesAll es t t' = (o : Opening) (before : List Entry) → IsLegalIn o (reverse es ++ before)
    → o.entries < 2 ^ 32 → t ≡ told_of (history o before)
    → t' ≡ told_of (history o (reverse es ++ before))

-- of these entries all are noted, the oldest first, but for those that are left
pub record NotesBut (left es : List Entry) (t t' : Told) : Type 0 where
  pub noted : List Entry
  pub are : es ≡ noted ++ left
  pub told : NotesAll noted t t'
