-- What is read of a node without an entry.
use Rattle.std.specs.Prelude.{◌≡◌, ℕ, cond, List, [], Option, Some, None, Ok, Err}
use Rattle.std.specs.List.{flat_map}
use Rattle.std.specs.Option.{option_to_list}
use Rattle.std.specs.declared.result.Result.{Result}
use Rattle.policy_audit.specs.declared.event.Event.{Event}
use Rattle.policy_audit.specs.declared.event.Event.TheVariants as event
use Rattle.policy_audit.specs.declared.reply.Reply.{Reply}
use Rattle.policy_audit.specs.History.{History}
use Rattle.policy_audit.specs.Sides.{peer_of, Awaited, AwaitName, AwaitAnswer, AwaitReply}
use Rattle.policy_audit.specs.Sides.{AwaitStatus, AwaitChallenge, AwaitAck, AwaitMessage, awaits}
use Rattle.policy_audit.specs.Links.{is_open, is_up}
use Rattle.policy_audit.specs.Checks.{checks, first_broken}
use Rattle.policy_audit.specs.Policy.{answer}
use Rattle.node_core.specs.declared.fault.CoreFault.{CoreFault}
use Rattle.node_core.specs.declared.fault.CoreFault.TheVariants as faults
use Rattle.node_core.specs.declared.awaiting.FrameKind.{FrameKind}
use Rattle.node_core.specs.declared.awaiting.FrameKind.TheVariants as frame
use Rattle.node_core.specs.declared.awaiting.Awaiting.{Awaiting}
use Rattle.node_core.specs.declared.link_state.LinkState.{LinkState}
use Rattle.node_core.specs.declared.link_state.LinkState.TheVariants as state
use Rattle.node_core.specs.declared.queries.Query.{Query}
use Rattle.node_core.specs.declared.queries.Query.TheVariants as query
use Rattle.node_core.specs.LinkFacts.{kept_numbers}

-- ---- peers and links

-- the peer of link l, where it is up
abbrev pub up_name : History → ℕ → List (List ℕ)
up_name h l = cond (is_up l h.entries) (option_to_list (peer_of l h.entries)) []

-- the peers of the links that are up, the oldest link first
abbrev pub up_names : History → List (List ℕ)
up_names h = flat_map (up_name h) (kept_numbers h)

-- what the policy calls this
abbrev pub frame_of : Awaited → FrameKind
frame_of AwaitName = frame.Name
frame_of AwaitAnswer = frame.Answer
frame_of AwaitReply = frame.Reply
frame_of AwaitStatus = frame.Status
frame_of AwaitChallenge = frame.Challenge
frame_of AwaitAck = frame.Ack
frame_of AwaitMessage = frame.Message

-- what a link in this state awaits
abbrev pub frame_awaited : LinkState → Option FrameKind
frame_awaited (state.Name challenge) = Some frame.Name
frame_awaited (state.Answer s) = Some frame.Answer
frame_awaited (state.Reply s) = Some frame.Reply
frame_awaited (state.Status dial) = Some frame.Status
frame_awaited (state.Challenge dial) = Some frame.Challenge
frame_awaited (state.Ack s) = Some frame.Ack
frame_awaited (state.Up up) = Some frame.Message
frame_awaited state.Ended = None

-- link l, and what it awaits where it is open
abbrev pub awaiting : History → ℕ → Awaiting
awaiting h l = record {
  link = l;
  frame =
      cond (is_open l h.entries) (Some (frame_of (awaits l h.entries))) None;
}

-- ---- rows

-- the event that asks this of a scope
abbrev pub event_of : List ℕ → Query → Event
event_of s (query.Members g) = event.Members s g.now
event_of s (query.LocalMembers g) = event.LocalMembers s g.now
event_of s query.Groups = event.Groups s
event_of s query.LocalGroups = event.LocalGroups s

-- what the policy answers the event of any seat, or its first broken rule, whether or not the audit
-- is full
abbrev pub IsAnswer : History → Event → Result Reply CoreFault → Type 0
IsAnswer h e (Ok reply) = (seat : ℕ) → (first_broken (checks h seat e) ≡ None)
    × (answer h seat e ≡ reply)
IsAnswer h e (Err (faults.Refused rule)) = (seat : ℕ) → first_broken (checks h seat e) ≡ Some rule
IsAnswer h e (Err faults.OutOfMemory) = Unit {0}
