-- What makes a monitor of a connection due.
use Rattle.std.specs.Prelude.{◌≡◌, ◌⊎◌, ℕ, Bool, true, false, ◌&&◌, ◌||◌, not, max, nat_lt}
use Rattle.std.specs.Prelude.{List, [], ◌∷◌, Result, Option, Some, None}
use Rattle.std.specs.List.{list_any}
use Rattle.std.specs.Option.{option_map_or}
use Rattle.dist_types.specs.Listing.{same}
use Rattle.policy_audit.specs.declared.event.Event.{Event}
use Rattle.policy_audit.specs.declared.event.Event.TheVariants as event
use Rattle.policy_audit.specs.declared.entry.Verdict.{Verdict}
use Rattle.policy_audit.specs.declared.entry.Verdict.TheVariants.{Accepted}
use Rattle.policy_audit.specs.declared.entry.Entry.{Entry}
use Rattle.policy_audit.specs.Changes.{groups_in}
use Rattle.policy_audit.specs.Monitors.{Target, is_watched}
use Rattle.policy_audit.specs.declared.reply.Reply.{Reply}
use Rattle.node_threads.specs.declared.fault.CallFault.{CallFault}
use Rattle.node_threads.specs.Calls.{Record}
use Rattle.node_threads.specs.Applied.{Called}
use Rattle.pg_session.specs.declared.caller.Fetched.{Fetched}
use Rattle.pg_session.specs.declared.caller.Fetched.TheVariants as fetched
use Rattle.pg_session.specs.declared.watch.Watch.{Watch}
use Rattle.pg_session.specs.Outcomes.{fetched_by}

-- what the monitor watches
abbrev pub target : Watch → Target
target w = record { scope = w.scope; group = w.group }

-- a monitor of this number that begins: nothing was asked yet, and it is neither due nor over
abbrev pub begun : ℕ → List ℕ → Option (List ℕ) → Watch
begun n s g = record {
  number = n;
  scope = s;
  group = g;
  asked = 0;
  is_due = false;
  is_over = false;
}

-- the monitor as it began
abbrev pub as_begun : Watch → Watch
as_begun w = begun w.number w.scope w.group

-- the scope that an entry of this event and this verdict has stopped
abbrev pub stopped_by : Event → Verdict → Option (List ℕ)
stopped_by (event.StopScope s) (Accepted r) = Some s
stopped_by e verdict = None

-- the entry has stopped this scope
abbrev pub stops : List ℕ → Entry → Bool
stops s e = option_map_or (λ t. same t s) (stopped_by e.event e.verdict) false

-- the entry has changed rows that this watches
abbrev pub is_touched : Target → Entry → Bool
is_touched t e = list_any (is_watched t.group) (groups_in t.scope e.change)

-- one of these entries, behind the monitor's own, passes the test
abbrev pub is_any_later : Watch → (Entry → Bool) → List Entry → Bool
is_any_later w p es = list_any (λ e. nat_lt w.number e.number && p e) es

-- how a monitor stands once these entries were looked at: of those behind its own, one that stopped
-- its scope has ended it, and one that changed rows which it watches makes it due
abbrev pub noted : List Entry → Watch → Watch
noted es w = record w {
  is_over = w.is_over || is_any_later w (stops w.scope) es;
  is_due = w.is_due || is_any_later w (is_touched (target w)) es;
}

-- it has something to tell, and hasn't ended
abbrev pub is_asked : Watch → Bool
is_asked w = w.is_due && not w.is_over

-- how a monitor stands that is asked, too, where it was neither begun nor asked since there were so
-- many entries
abbrev pub aged : ℕ → Watch → Watch
aged stale w = record w { is_due = w.is_due || nat_lt (max w.asked w.number) stale }

-- ---- how monitors are asked

-- how a monitor stands whose updates were asked for, where so many entries were looked at
abbrev pub learned : Fetched → ℕ → Watch → Watch
learned fetched.Told entries w = record w { is_due = false; asked = entries }
learned fetched.Over entries w = record w { is_over = true }
learned fetched.NotNow entries w = w

-- it was asked, and stands as the answer makes it: not due where it was told its updates, and over
-- where there is no such monitor
abbrev pub Learns : Record → Watch → ℕ → Record → Watch → Type 0
Learns pass w entries pass' w' = (answer : Result Reply CallFault)
    × Called pass (event.Updates w.number) answer pass'
    × (w' ≡ learned (fetched_by answer) entries w)

-- it was asked where it is due and not over; else there was no call, and it is as it was
abbrev pub Asks : Record → Watch → ℕ → Record → Watch → Type 0
Asks pass w entries pass' w' = ((is_asked w ≡ true) × Learns pass w entries pass' w')
    ⊎ ((is_asked w ≡ false) × (pass' ≡ pass) × (w' ≡ w))

-- each of these was, in their order
abbrev pub AllAsked : Record → List Watch → ℕ → Record → List Watch → Type 0
AllAsked pass [] entries pass' all = (pass' ≡ pass) × (all ≡ [])
AllAsked pass (w ∷ ws) entries pass' all = (mid : Record) × (w' : Watch) × (others : List Watch)
    × Asks pass w entries mid w' × AllAsked mid ws entries pass' others × (all ≡ w' ∷ others)
