-- What a node has seen: its opening, and an entry for each event that it answered.
use Rattle.std.specs.Prelude.{ℕ, ◌+◌, Bool, true, false, cond, ◌&&◌, ◌==◌, not, List, [], ◌∷◌, ◌++◌}
use Rattle.std.specs.Prelude.{Option, Some, None, map}
use Rattle.std.specs.List.{filter}
use Rattle.dist_types.specs.Listing.{how_many}
use Rattle.policy_audit.specs.declared.opening.Opening.{Opening}
use Rattle.policy_audit.specs.declared.event.Event.{Event}
use Rattle.policy_audit.specs.declared.event.Event.TheVariants as event
use Rattle.policy_audit.specs.declared.reply.Reply.TheVariants as reply
use Rattle.policy_audit.specs.declared.entry.Verdict.{Verdict}
use Rattle.policy_audit.specs.declared.entry.Verdict.TheVariants.{Accepted, Refused}
use Rattle.policy_audit.specs.declared.entry.Entry.{Entry}

-- an opening and what came after it, the newest first:
-- the entries of the audit, and the losses of links that came with them
pub record History : Type 0 where
  pub opening : Opening
  pub entries : List Entry

-- the history of this opening and these entries
abbrev pub past : Opening → List Entry → History
past opening entries = record { opening = opening; entries = entries }

-- the loss of link l, which comes with an entry:
-- it is none of the audit, and has no number of its own
abbrev pub loss : ℕ → Entry
loss l = record {
  number = 0;
  seat = 0;
  event = event.Lost l;
  verdict = Accepted reply.Done;
  change = [];
}

-- whether this is an entry of the audit: these are numbered from 1
abbrev pub is_entered : Entry → Bool
is_entered e = not (e.number == 0)

-- the entries of the audit
abbrev pub audited : List Entry → List Entry
audited es = filter is_entered es

-- how many entries the audit has
abbrev pub entered : List Entry → ℕ
entered es = how_many is_entered es

-- the audit alone
abbrev pub audit_of : History → History
audit_of h = past h.opening (audited h.entries)

-- the same after an entry, with nothing that comes with it
abbrev pub just : History → Entry → History
just h e = past h.opening (e ∷ h.entries)

-- the same after the losses of these links
abbrev pub lose : List ℕ → List Entry → List Entry
lose ls es = map loss ls ++ es

-- the verdict accepts the event
abbrev pub is_accepted : Verdict → Bool
is_accepted (Accepted reply) = true
is_accepted (Refused rule) = false

-- the event is a restart
abbrev pub is_restart : Event → Bool
is_restart event.Restart = true
is_restart e = false

-- an accepted event, with its number, its seat and the entries before it
pub record Moment : Type 0 where
  pub number : ℕ
  pub seat : ℕ
  pub event : Event
  pub before : List Entry

-- what was accepted since the last accepted Restart, the newest first
abbrev pub present : List Entry → List Moment
present [] = []
present (e ∷ es) = cond (is_accepted e.verdict)
    (cond (is_restart e.event) [] (record {
      number = e.number;
      seat = e.seat;
      event = e.event;
      before = es;
    } ∷ present es)) (present es)

-- the events of these moments
abbrev pub events : List Entry → List Event
events es = map (λ m. m.event) (present es)

-- the opening creation, and one more for each accepted Restart
abbrev pub creation : History → ℕ
creation h = h.opening.creation + how_many (λ e. is_accepted e.verdict && is_restart e.event)
    h.entries

-- the first value that f gives: looking back, the last thing that was said
abbrev pub first_of : {A B : Type 0} → (A → Option B) → List A → Option B
first_of f [] = None
first_of f (x ∷ xs) = elim (f x) [ Some y ↦ Some y | None ↦ first_of f xs ]
