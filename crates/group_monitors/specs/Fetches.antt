-- What a seat fetched of its monitor: by which entry last, and which updates by all of them.
use Rattle.std.specs.Prelude.{◌≡◌, ℕ, false, cond, ◌&&◌, ◌==◌, List, [], Some, IsTrue}
use Rattle.std.specs.List.{AllByRecursion, flat_map}
use Rattle.policy_audit.specs.declared.event.Event.TheVariants as event
use Rattle.policy_audit.specs.declared.reply.Reply.TheVariants as reply
use Rattle.policy_audit.specs.declared.reply.Update.{Update}
use Rattle.policy_audit.specs.declared.entry.Verdict.{Verdict}
use Rattle.policy_audit.specs.declared.entry.Verdict.TheVariants.{Accepted}
use Rattle.policy_audit.specs.declared.entry.Entry.{Entry}
use Rattle.policy_audit.specs.Log.{entry_at, later_than}
use Rattle.policy_audit.specs.Monitors.{is_fetch}

-- the entry at the place is monitor k of the seat or an Updates of it, and no later one is
pub record IsLastFetch (seat k place : ℕ) (entries : List Entry) : Type 0 where
  pub fetch : (e : Entry) × (entry_at place entries ≡ Some e) × IsTrue (is_fetch seat k e)
  pub later : AllByRecursion (λ e. is_fetch seat k e ≡ false) (later_than place entries)

-- the updates that are answered
abbrev pub updates_in : Verdict → List Update
updates_in (Accepted (reply.Updates us)) = us
updates_in v = []

-- what the entry answers the seat, where that asked for the updates of its monitor k
abbrev pub fetched_by : ℕ → ℕ → Entry → List Update
fetched_by seat k e =
    elim e.event [
      | event.Updates n ↦ cond (n == k && e.seat == seat) (updates_in e.verdict) []
      | _ ↦ []
    ]

-- all updates of its monitor k that the seat has fetched since entry k, the oldest first
abbrev pub fetched : ℕ → ℕ → List Entry → List Update
fetched seat k entries = flat_map (fetched_by seat k) (later_than k entries)
