-- What one event makes of a node.
use Rattle.std.specs.Prelude.{◌≡◌, ℕ, ◌<◌, ◌+◌, false, List, [], ◌∷◌, length, Ok, Err}
use Rattle.std.specs.declared.result.Result.{Result}
use Rattle.handshake_frames.specs.Spelling.{IsVersion}
use Rattle.policy_audit.specs.declared.opening.Opening.{Opening}
use Rattle.policy_audit.specs.declared.event.Event.{Event}
use Rattle.policy_audit.specs.declared.reply.Reply.{Reply}
use Rattle.policy_audit.specs.declared.entry.Entry.{Entry}
use Rattle.policy_audit.specs.declared.entry.Verdict.{Verdict}
use Rattle.policy_audit.specs.declared.entry.Verdict.TheVariants as verdicts
use Rattle.policy_audit.specs.History.{History}
use Rattle.policy_audit.specs.declared.change.Change.{Change}
use Rattle.policy_audit.specs.Owed.{with_entry}
use Rattle.policy_audit.specs.Policy.{verdict, is_full, after, next_number, IsNext}
use Rattle.node_core.specs.declared.entering.Answered.{Answered}
use Rattle.node_core.specs.declared.kept.Kept.{Kept}
use Rattle.node_core.specs.declared.fault.CoreFault.{CoreFault}
use Rattle.node_core.specs.declared.fault.CoreFault.TheVariants as faults
use Rattle.node_core.specs.declared.fault.OpenFault.{OpenFault}
use Rattle.node_core.specs.declared.fault.OpenFault.TheVariants as open_faults
use Rattle.node_core.specs.Core.{Keeps}

-- the policy's verdict on the event, and its history after it; for want of memory the history stays
unfoldable pub IsStepped : History → ℕ → Event → History → Result Reply CoreFault → Type 0
IsStepped old seat e new (Ok reply) = (verdict old seat e ≡ verdicts.Accepted reply)
    × (new ≡ after old seat e)
IsStepped old seat e new (Err (faults.Refused rule)) = (verdict old seat e ≡ verdicts.Refused rule)
    × (new ≡ after old seat e)
IsStepped old seat e new (Err faults.OutOfMemory) = (is_full old ≡ false) × (new ≡ old)

-- why there is no node: the limit comes first, and then the version, which is 1 or 2
abbrev pub IsOpenFault : OpenFault → Opening → Type 0
IsOpenFault open_faults.BadLimit opening = opening.entries ≡ 0
IsOpenFault open_faults.BadLinks opening = (0 < opening.entries) × (IsVersion opening.links → ⊥)
IsOpenFault open_faults.OutOfMemory opening = (0 < opening.entries) × IsVersion opening.links

-- ---- what is kept, event by event

-- a node of this history is called by a seat
pub record Call : Type 0 where
  pub past : History
  pub seat : ℕ

-- what is kept is that of the node that is called, and its audit isn't full
pub record IsCalled (call : Call) (kept : Kept) : Type 0 where
  pub keeps : Keeps call.past kept
  pub space : is_full call.past ≡ false

-- the seat that calls, and the number of the entry that is to come
pub record IsTurn (call : Call) (seat number : ℕ) (kept : Kept) : Type 0 where
  pub called : IsCalled call kept
  pub seat_is : seat ≡ call.seat
  pub number_is : number ≡ next_number call.past

-- it is answered so, in both copies, and has changed this
abbrev pub Says : Answered → Reply → List Change → Type 0
Says a reply changes = (a.reply ≡ reply) × (a.copy ≡ reply) × (a.changes.items ≡ changes)

-- the entry of an event with this verdict and these changes
abbrev pub made : History → ℕ → Event → Verdict → List Change → Entry
made h seat e v changes = record {
  number = next_number h;
  seat = seat;
  event = e;
  verdict = v;
  change = changes;
}

-- this entry is the policy's next, and what is kept is that of a node which has it
abbrev pub Enters : History → Entry → Kept → Type 0
Enters h entry kept = IsNext h entry × Keeps (with_entry h entry) kept

-- the event is answered by the policy, and what is kept follows; after want of memory it is that of
-- the node as it was
unfoldable pub Answers : Call → Event → Kept → Result Answered CoreFault → Type 0
Answers call e kept (Ok a) = (a.copy ≡ a.reply)
    × Enters call.past (made call.past call.seat e (verdicts.Accepted a.reply) a.changes.items) kept
Answers call e kept (Err (faults.Refused rule)) =
    Enters call.past (made call.past call.seat e (verdicts.Refused rule) []) kept
Answers call e kept (Err faults.OutOfMemory) = Keeps call.past kept

-- the entries of an audit with one more, of an event that was answered so;
-- after want of memory there is none
abbrev pub one_more : List Entry → ℕ → Event → Result Answered CoreFault → List Entry
one_more es seat e (Ok a) = record {
  number = length es + 1;
  seat = seat;
  event = e;
  verdict = verdicts.Accepted a.copy;
  change = a.changes.items;
} ∷ es
one_more es seat e (Err (faults.Refused rule)) = record {
  number = length es + 1;
  seat = seat;
  event = e;
  verdict = verdicts.Refused rule;
  change = [];
} ∷ es
one_more es seat e (Err faults.OutOfMemory) = es

-- what the caller is told
abbrev pub reply_of : Result Answered CoreFault → Result Reply CoreFault
reply_of (Ok a) = Ok a.reply
reply_of (Err fault) = Err fault
