-- What lies behind the lock.
use Rattle.std.specs.Prelude.{◌≡◌, ℕ, ◌+◌, ◌<◌, ◌≤◌, List, length, slice_index, slice_set}
use Rattle.std.specs.List.{AllByRecursion}
use Rattle.policy_audit.specs.declared.entry.Entry.{Entry}
use Rattle.policy_audit.specs.History.{History, audited}
use Rattle.policy_audit.specs.Policy.{IsLegal}
use Rattle.node_core.specs.Recorded.{Recorded}
use Rattle.node_threads.specs.Calls.{entries_of}

-- a node's history, for each seat a count, and how many of the oldest entries of the audit were
-- handed out
pub record Room : Type 0 where
  pub history : History
  pub counts : List ℕ
  pub forgotten : ℕ

-- the node alone
abbrev pub recorded : Room → Recorded
recorded room = record { history = room.history; forgotten = room.forgotten }

-- the node, with these counts
abbrev pub room_of : Recorded → List ℕ → Room
room_of node counts = record { history = node.history; counts = counts; forgotten = node.forgotten }

-- every entry is of a seat that has a count, and each count is the number of that seat's entries
pub record AreCounted (counts : List ℕ) (es : List Entry) : Type 0 where
  pub seated : AllByRecursion (λ e. e.seat < length counts) es
  pub each : (seat : ℕ) → seat < length counts → slice_index counts seat ≡ entries_of seat es

-- the history is one that the policy makes, and the entries of its audit are counted,
-- of 1 to 256 seats
pub record IsSound (room : Room) : Type 0 where
  pub legal : IsLegal room.history
  pub counted : AreCounted room.counts (audited room.history.entries)
  pub some : 0 < length room.counts
  pub few : length room.counts ≤ 256

-- one more for this seat
abbrev pub one_more : ℕ → List ℕ → List ℕ
one_more seat counts = slice_set counts seat (slice_index counts seat + 1)
