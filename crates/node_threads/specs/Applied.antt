-- What a call finds, answers and leaves.
use Rattle.std.specs.Prelude.{◌≡◌, ℕ, ◌<◌, false, cond, [], ◌∷◌, ◌++◌, length, Result, Ok, Err}
use Rattle.std.specs.Borrow.{Bor}
use Rattle.policy_audit.specs.declared.event.Event.{Event}
use Rattle.policy_audit.specs.declared.reply.Reply.{Reply}
use Rattle.policy_audit.specs.declared.entry.Verdict.{Verdict}
use Rattle.policy_audit.specs.declared.entry.Verdict.TheVariants as verdicts
use Rattle.policy_audit.specs.History.{History, audited}
use Rattle.policy_audit.specs.Policy.{verdict, is_full, next_number, after}
use Rattle.node_core.specs.declared.fault.CoreFault.TheVariants.{Refused, OutOfMemory}
use Rattle.node_threads.specs.declared.fault.CallFault.{CallFault}
use Rattle.node_threads.specs.declared.fault.CallFault.TheVariants.{StrangePass, Core}
use Rattle.node_threads.specs.Calls.{Record, entries_of}
use Rattle.node_threads.specs.Room.{Room, IsSound, one_more}

-- the seat of the pass is one of the room's, and has as many entries in the audit as the pass has
-- calls, those that it let go too
pub record Fits (room : Room) (pass : Record) : Type 0 where
  pub seat : pass.seat < length room.counts
  pub calls : length pass.calls ≡ entries_of pass.seat (audited room.history.entries)

-- the pass with one more call
abbrev pub with_call : Record → ℕ → Event → Verdict → Record
with_call pass n e v = record {
  seat = pass.seat;
  calls = pass.calls ++ record { number = n; event = e; verdict = v } ∷ [];
  gone = pass.gone;
}

-- the room after an event of the seat: with the policy's entry and a count that is one more, unless
-- the audit was full
abbrev pub room_after : Room → ℕ → Event → Room
room_after room seat e = record {
  history = after room.history seat e;
  counts = cond (is_full room.history) room.counts (one_more seat room.counts);
  forgotten = room.forgotten;
}

-- the pass after an event with this verdict: with the call that made the entry, unless the audit
-- was full
abbrev pub pass_after : History → Record → Event → Verdict → Record
pass_after h pass e v = cond (is_full h) pass (with_call pass (next_number h) e v)

-- the pass fits, the verdict on its seat's event is the policy's, and the room and the pass have
-- gained the entry and the call
pub record IsAnswered (room : Room) (pass : Record) (e : Event) (v : Verdict) (room' : Room)
    (pass' : Record) : Type 0 where
  pub fits : Fits room pass
  pub policy : v ≡ verdict room.history pass.seat e
  pub room_is : room' ≡ room_after room pass.seat e
  pub pass_is : pass' ≡ pass_after room.history pass e v

-- nothing has changed
pub record IsSame (room : Room) (pass : Record) (room' : Room) (pass' : Record) : Type 0 where
  pub room_is : room' ≡ room
  pub pass_is : pass' ≡ pass

-- what a call that is answered so makes of the room and the pass
abbrev pub Applied : Room → Record → Event → Result Reply CallFault → Room → Record → Type 0
Applied room pass e (Ok reply) room' pass' =
    IsAnswered room pass e (verdicts.Accepted reply) room' pass'
Applied room pass e (Err (Core (Refused rule))) room' pass' =
    IsAnswered room pass e (verdicts.Refused rule) room' pass'
Applied room pass e (Err (Core OutOfMemory)) room' pass' = Fits room pass
    × (is_full room.history ≡ false) × IsSame room pass room' pass'
Applied room pass e (Err StrangePass) room' pass' = (Fits room pass → ⊥)
    × IsSame room pass room' pass'

-- the same, of a room that was found behind the lock and is left there
abbrev pub Called : Record → Event → Result Reply CallFault → Record → Type 0
Called pass e answer pass' = (room : Room) × (room' : Room) × IsSound room × IsSound room'
    × Applied room pass e answer room' pass'

-- the answer, without the loan
abbrev pub answer_now : Result (Bor Reply) CallFault → Result Reply CallFault
answer_now (Ok reply) = Ok reply.now
answer_now (Err fault) = Err fault

-- what is told of a verdict that is kept
abbrev pub IsKept : Verdict → Result (Unit {0}) CallFault → Type 0
IsKept (verdicts.Accepted reply) answer = answer ≡ Ok tt
IsKept (verdicts.Refused rule) answer = answer ≡ Err (Core (Refused rule))
