-- Monitors (Kernel manual, `pg:monitor/2`, `pg:monitor_scope/1`, `pg:demonitor/2`).
use Rattle.std.specs.Prelude.{ℕ, Bool, true, false, cond, ◌&&◌, ◌||◌, ◌==◌, List, [], ◌∷◌, ◌++◌, Option, Some, None}
use Rattle.std.specs.List.{flat_map}
use Rattle.std.specs.Option.{option_and_then, option_map_or}
use Rattle.dist_types.specs.declared.change.GroupChange.{GroupChange}
use Rattle.dist_types.specs.Listing.{same}
use Rattle.dist_types.specs.Difference.{is_empty}
use Rattle.policy_audit.specs.declared.event.Event.{Event}
use Rattle.policy_audit.specs.declared.event.Event.TheVariants as event
use Rattle.policy_audit.specs.declared.reply.Update.{Update}
use Rattle.policy_audit.specs.declared.change.Change.{Change}
use Rattle.policy_audit.specs.declared.entry.Entry.{Entry}
use Rattle.policy_audit.specs.History.{History, Moment, present, is_accepted}
use Rattle.policy_audit.specs.Changes.{groups_in}

-- what a monitor watches: a scope, or one group of it
pub record Target : Type 0 where
  pub scope : List ℕ
  pub group : Option (List ℕ)

-- what a Monitor or a MonitorScope watches
abbrev pub watched : Event → Option Target
watched (event.Monitor s g) = Some (record { scope = s; group = Some g })
watched (event.MonitorScope s) = Some (record { scope = s; group = None })
watched e = None

-- what an event of a seat makes of its monitor k
abbrev pub monitor_after : ℕ → ℕ → Moment → Option Target → Option Target
monitor_after seat k m before =
    elim m.event [
      | event.Demonitor n ↦ cond (n == k && m.seat == seat) None before
      | event.StopScope s ↦ option_and_then (λ t. cond (same t.scope s) None (Some t)) before
      | _ ↦ cond (m.number == k && m.seat == seat) (watched m.event) before
    ]

-- the seat's monitor k after these moments
abbrev pub monitor_in : ℕ → ℕ → List Moment → Option Target
monitor_in seat k [] = None
monitor_in seat k (m ∷ ms) = monitor_after seat k m (monitor_in seat k ms)

-- the seat's monitor k: entry k is an accepted Monitor or MonitorScope of that seat, with no later
-- Demonitor k of that seat and no later stop of the scope
abbrev pub monitor : History → ℕ → ℕ → Option Target
monitor h seat k = monitor_in seat k (present h.entries)

-- the updates of one group: what left, and then what joined
abbrev pub group_updates : GroupChange → List Update
group_updates c = cond (is_empty c.left) [] (record { group = c.group; leave = true; pids = c.left }
    ∷ []) ++ cond (is_empty c.joined) [] (record { group = c.group; leave = false; pids = c.joined }
    ∷ [])

-- a monitor of this group, or of all groups, watches the change
abbrev pub is_watched : Option (List ℕ) → GroupChange → Bool
is_watched None c = true
is_watched (Some g) c = same c.group g

-- the updates of one entry's change
abbrev pub updates_of : Target → List Change → List Update
updates_of t changes = flat_map (λ c. cond (is_watched t.group c) (group_updates c) [])
    (groups_in t.scope changes)

-- the entry is monitor k of the seat, or an Updates of it
abbrev pub is_fetch : ℕ → ℕ → Entry → Bool
is_fetch seat k e = is_accepted e.verdict
    && (e.number == k || elim e.event [ event.Updates n ↦ n == k && e.seat == seat | _ ↦ false ])

-- the updates of these entries since the last fetch, the oldest first
abbrev pub updates_since : ℕ → ℕ → Target → List Entry → List Update
updates_since seat k t [] = []
updates_since seat k t (e ∷ es) = cond (is_fetch seat k e) [] (updates_since seat k t es
    ++ updates_of t e.change)

-- the updates of all entries since the monitor's own, or since its last Updates
abbrev pub updates : History → ℕ → ℕ → List Update
updates h seat k = option_map_or (λ t. updates_since seat k t h.entries) (monitor h seat k) []
