-- The monitors are those of the policy: what the node keeps of a history.
use Rattle.std.specs.Prelude.{◌≡◌, ℕ, ◌≤◌, Bool, true, false, List, Some, length}
use Rattle.std.specs.List.{AllByRecursion}
use Rattle.std.specs.Option.{option_map}
use Rattle.policy_audit.specs.declared.event.Event.{Event}
use Rattle.policy_audit.specs.declared.event.Event.TheVariants as event
use Rattle.policy_audit.specs.declared.entry.Entry.{Entry}
use Rattle.policy_audit.specs.History.{History, present}
use Rattle.policy_audit.specs.Monitors.{monitor, monitor_in, Target}
use Rattle.group_monitors.specs.declared.monitor.Monitor.{Monitor}
use Rattle.group_monitors.specs.Monitors.{target, monitor_of, IsNumbered}
use Rattle.group_monitors.specs.Fetches.{IsLastFetch}

-- each seat has the monitors that the policy says of this audit, each at the place of its last
-- fetch; their numbers are of entries so far, and no two are the same
pub record FollowsPolicy (h : History) (ms : List (ℕ × Monitor)) : Type 0 where
  pub found : (seat k : ℕ) → option_map target (monitor_of ms seat k) ≡ monitor h seat k
  pub places : (seat k : ℕ) (m : Monitor) → monitor_of ms seat k ≡ Some m
      → IsLastFetch seat k m.place h.entries
  pub numbered : IsNumbered ms
  pub past : AllByRecursion (λ m. m.0 ≤ length h.entries) ms

-- the last fetch of each monitor is behind the first entries, as many as the number says: what it
-- has still to be told is among the others
abbrev pub Reaches : ℕ → List Entry → Type 0
Reaches forgotten entries = (seat k place : ℕ) (t : Target)
    → monitor_in seat k (present entries) ≡ Some t → IsLastFetch seat k place entries
    → forgotten ≤ place

-- the kinds of events that add, move or take away monitors
abbrev pub concerns_monitors : Event → Bool
concerns_monitors event.Restart = true
concerns_monitors (event.StopScope s) = true
concerns_monitors (event.Monitor s g) = true
concerns_monitors (event.MonitorScope s) = true
concerns_monitors (event.Demonitor k) = true
concerns_monitors (event.Updates k) = true
concerns_monitors e = false
