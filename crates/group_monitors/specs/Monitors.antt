-- The monitors of all seats: in the order in which they were added, each with its number.
use Rattle.std.specs.Prelude.{◌≡◌, ℕ, ◌≤◌, Bool, false, cond, not, nat_eq, ◌&&◌, ◌==◌, List, [], ◌∷◌, Option, Some, None, map, length, IfSome, IsSome}
use Rattle.std.specs.List.{IsDistinct, flat_map, filter, list_any}
use Rattle.dist_types.specs.Listing.{same}
use Rattle.policy_audit.specs.declared.reply.Update.{Update}
use Rattle.policy_audit.specs.declared.entry.Entry.{Entry}
use Rattle.policy_audit.specs.Log.{later_than}
use Rattle.policy_audit.specs.Monitors.{Target, updates_of}
use Rattle.group_monitors.specs.declared.monitor.Monitor.{Monitor}
use Rattle.group_monitors.specs.declared.fault.UpdatesFault.{UpdatesFault}
use Rattle.group_monitors.specs.declared.fault.UpdatesFault.TheVariants as faults

-- what the monitor watches
abbrev pub target : Monitor → Target
target m = record { scope = m.scope; group = m.group }

-- whether it is the seat's and has the number
abbrev pub is_of : ℕ → ℕ → ℕ × Monitor → Bool
is_of seat number m = number == m.0 && m.1.seat == seat

-- the seat's monitor of that number
abbrev pub monitor_of : List (ℕ × Monitor) → ℕ → ℕ → Option Monitor
monitor_of [] seat number = None
monitor_of (m ∷ ms) seat number = cond (is_of seat number m) (Some m.1) (monitor_of ms seat number)

-- no two monitors have the same number
abbrev pub IsNumbered : List (ℕ × Monitor) → Type 0
IsNumbered ms = IsDistinct nat_eq (map (λ m. m.0) ms)

-- no monitor, of whatever seat, has the number
abbrev pub IsFree : ℕ → List (ℕ × Monitor) → Type 0
IsFree number ms = list_any (λ m. number == m.0) ms ≡ false

-- the monitor, where there is one, has seen no more entries than there are
abbrev pub HasSeen : Option Monitor → List Entry → Type 0
HasSeen found entries = IfSome found (λ m. m.place ≤ length entries)

-- the updates of the entries behind the monitor's place, the oldest first
abbrev pub updates_behind : List Entry → Monitor → List Update
updates_behind entries m = flat_map (λ e. updates_of (target m) e.change)
    (later_than m.place entries)

-- the monitors but the seat's of that number
abbrev pub without : ℕ → ℕ → List (ℕ × Monitor) → List (ℕ × Monitor)
without seat number ms = filter (λ m. not (is_of seat number m)) ms

-- the monitors but those of the scope
abbrev pub without_scope : List ℕ → List (ℕ × Monitor) → List (ℕ × Monitor)
without_scope s ms = filter (λ m. not (same m.1.scope s)) ms

-- the monitor, at this place
abbrev pub at_place : ℕ → Monitor → Monitor
at_place place m = record m { place = place }

-- the monitors, with the seat's of that number at this place
abbrev pub with_place : ℕ → ℕ → ℕ → List (ℕ × Monitor) → List (ℕ × Monitor)
with_place seat number place ms = map (λ m. cond (is_of seat number m) (m.0, at_place place m.1) m)
    ms

-- why no updates are told. Want of memory comes last.
abbrev pub IsUpdatesFault : UpdatesFault → Option Monitor → Type 0
IsUpdatesFault faults.NoMonitor found = found ≡ None
IsUpdatesFault faults.OutOfMemory found = IsSome found
