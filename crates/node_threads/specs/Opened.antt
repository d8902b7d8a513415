-- A new node, and why there is none.
use Rattle.std.specs.Prelude.{◌≡◌, ℕ, ◌<◌, ◌≤◌, List, [], length, replicate, slice_get, Some}
use Rattle.handshake_frames.specs.Spelling.{IsVersion}
use Rattle.policy_audit.specs.declared.opening.Opening.{Opening}
use Rattle.node_threads.specs.declared.fault.NewFault.{NewFault}
use Rattle.node_threads.specs.declared.fault.NewFault.TheVariants.{BadSeats, BadLimit, BadLinks, OutOfMemory}
use Rattle.policy_audit.specs.History.{past}
use Rattle.node_threads.specs.Calls.{Record}
use Rattle.node_threads.specs.Room.{Room}

-- a node with this opening that has seen nothing, and that many seats without an entry
abbrev pub new_room : Opening → ℕ → Room
new_room opening seats =
    record { history = past opening []; counts = replicate seats 0; forgotten = 0 }

-- a pass for each seat, in the order of the seats, with no calls
pub record IsOpened (seats : ℕ) (passes : List Record) : Type 0 where
  pub count : length passes ≡ seats
  pub each : (seat : ℕ) → seat < seats
      → slice_get passes seat ≡ Some (record { seat = seat; calls = []; gone = 0 })

-- a node may have that many seats
abbrev pub HasBounds : ℕ → Type 0
HasBounds seats = (0 < seats) × (seats ≤ 256)

-- why there is no node: the seats come first, then the limit, and then the version, which is 1 or 2
abbrev pub IsNewFault : NewFault → Opening → ℕ → Type 0
IsNewFault BadSeats opening seats = HasBounds seats → ⊥
IsNewFault BadLimit opening seats = HasBounds seats × (opening.entries ≡ 0)
IsNewFault BadLinks opening seats =
    HasBounds seats × (0 < opening.entries) × (IsVersion opening.links → ⊥)
IsNewFault OutOfMemory opening seats =
    HasBounds seats × (0 < opening.entries) × IsVersion opening.links
