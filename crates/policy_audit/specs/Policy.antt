-- The written policy: what each event is answered after a history, and which histories it makes.
use Rattle.std.specs.Prelude.{◌≡◌, ℕ, ◌+◌, ◌<◌, ◌==◌, Bool, false, cond, not, nat_lt, List, [], ◌∷◌}
use Rattle.std.specs.Prelude.{Option, Some, None}
use Rattle.std.specs.Option.{option_map_or, unwrap_or}
use Rattle.policy_audit.specs.declared.opening.Opening.{Opening}
use Rattle.policy_audit.specs.declared.event.Event.{Event}
use Rattle.policy_audit.specs.declared.event.Event.TheVariants as event
use Rattle.policy_audit.specs.declared.reply.Reply.{Reply}
use Rattle.policy_audit.specs.declared.reply.Reply.TheVariants as reply
use Rattle.policy_audit.specs.declared.rule.Rule.{Rule}
use Rattle.policy_audit.specs.declared.rule.Rule.TheVariants as rule
use Rattle.policy_audit.specs.declared.entry.Verdict.{Verdict}
use Rattle.policy_audit.specs.declared.entry.Verdict.TheVariants.{Accepted, Refused}
use Rattle.policy_audit.specs.declared.entry.Entry.{Entry}
use Rattle.policy_audit.specs.History.{History, past, creation, audited, audit_of, entered}
use Rattle.policy_audit.specs.Own.{spawned}
use Rattle.policy_audit.specs.Sides.{given, peer_of, is_visible, awaits, is_last}
use Rattle.policy_audit.specs.Contents.{members, local_members, groups, local_groups, contents}
use Rattle.policy_audit.specs.Changes.{IsChange, change}
use Rattle.policy_audit.specs.Owed.{waiting, with_entry}
use Rattle.policy_audit.specs.Monitors.{updates}
use Rattle.policy_audit.specs.Checks.{first_broken, checks}

-- the number of the next entry
abbrev pub next_number : History → ℕ
next_number h = entered h.entries + 1

-- the peer of link l, the creation that it gave, and whether the link is visible
abbrev pub up_answer : History → ℕ → Reply
up_answer h l = option_map_or (λ f. reply.Up (unwrap_or (peer_of l h.entries) []) f.creation
    (is_visible h l)) (given l h.entries) reply.Done

-- what an accepted event is answered
abbrev pub answer : History → ℕ → Event → Reply
answer h seat (event.Members s g) = reply.Pids (members h s g)
answer h seat (event.LocalMembers s g) = reply.Pids (local_members h s g)
answer h seat (event.Groups s) = reply.Groups (groups h s)
answer h seat (event.LocalGroups s) = reply.Groups (local_groups h s)
answer h seat (event.Monitor s g) = reply.Ref (next_number h) (members h s g)
answer h seat (event.MonitorScope s) = reply.ScopeRef (next_number h) (contents h s)
answer h seat (event.Updates k) = reply.Updates (updates (audit_of h) seat k)
answer h seat (event.Take l) = reply.Out (waiting h l)
answer h seat event.Spawn = reply.Pid (record {
  node = h.opening.name;
  creation = creation h;
  number = spawned h + 1;
})
answer h seat (event.Opened c) = reply.Link (next_number h)
answer h seat (event.Dial n c) = reply.Link (next_number h)
answer h seat (event.Frame l body) = cond (is_last (awaits l h.entries)) (up_answer h l) reply.Done
answer h seat e = reply.Done

-- the audit has as many entries as it may have
abbrev pub is_full : History → Bool
is_full h = not (nat_lt (entered h.entries) h.opening.entries)

-- refused by this rule, or else accepted
abbrev pub judged : History → ℕ → Event → Option Rule → Verdict
judged h seat e (Some r) = Refused r
judged h seat e None = Accepted (answer h seat e)

-- the policy's verdict on a seat's event after this history, but for the limit of the audit
abbrev pub judgement : History → ℕ → Event → Verdict
judgement h seat e = judged h seat e (first_broken (checks h seat e))

-- the policy's verdict on a seat's event after this history
abbrev pub verdict : History → ℕ → Event → Verdict
verdict h seat e = cond (is_full h) (Refused rule.EntriesFull) (judgement h seat e)

-- the entry is what the policy makes of its event after this history
pub record IsNext (h : History) (e : Entry) : Type 0 where
  pub room : entered h.entries < h.opening.entries
  pub number : e.number ≡ next_number h
  pub verdict : e.verdict ≡ verdict h e.seat e.event
  pub change : IsChange h (with_entry h e) e.change

-- the history of an audit with these entries
abbrev pub history : Opening → List Entry → History
history o [] = past o []
history o (e ∷ es) = with_entry (history o es) e

-- each entry of an audit is what the policy makes of its event after those before it
abbrev pub IsLegalIn : Opening → List Entry → Type 0
IsLegalIn o [] = Unit {0}
IsLegalIn o (e ∷ es) = IsNext (history o es) e × IsLegalIn o es

-- the histories that the policy makes: those of the audits that it makes
pub record IsLegal (h : History) : Type 0 where
  pub entries : IsLegalIn h.opening (audited h.entries)
  pub whole : h ≡ history h.opening (audited h.entries)

-- ---- each step of such a history, the losses among them

-- an entry of the audit has the next number, and the loss of a link has none
abbrev pub IsNumbered : History → ℕ → Event → Type 0
IsNumbered h n (event.Lost l) = (n == 0) ≡ false → n ≡ next_number h
IsNumbered h n e = n ≡ next_number h

-- the step answers its event as the policy does after this history
pub record IsStep (h : History) (e : Entry) : Type 0 where
  pub number : IsNumbered h e.number e.event
  pub judged : e.verdict ≡ judgement h e.seat e.event

-- each step answers its event as the policy does after those before it
abbrev pub IsPlayedIn : Opening → List Entry → Type 0
IsPlayedIn o [] = Unit {0}
IsPlayedIn o (e ∷ es) = IsStep (past o es) e × IsPlayedIn o es

abbrev pub IsPlayed : History → Type 0
IsPlayed h = IsPlayedIn h.opening h.entries

-- ---- the same, computed

-- an entry of this event and verdict, with no change
abbrev pub bare_entry : History → ℕ → Event → Verdict → Entry
bare_entry h seat e v = record {
  number = next_number h;
  seat = seat;
  event = e;
  verdict = v;
  change = [];
}

-- the entry that the policy makes of an event
abbrev pub entry_of : History → ℕ → Event → Entry
entry_of h seat e =
    let v = verdict h seat e in
    record {
      number = next_number h;
      seat = seat;
      event = e;
      verdict = v;
      change = change h (with_entry h (bare_entry h seat e v));
    }

-- the history after an event: one entry more, unless the audit is full
abbrev pub after : History → ℕ → Event → History
after h seat e = cond (is_full h) h (with_entry h (entry_of h seat e))
