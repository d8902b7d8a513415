-- The frames of a handshake at one end of a link (Distribution Protocol, Distribution Handshake,
-- version 6).
use Rattle.std.specs.Prelude.{ℕ, Bool, true, false, cond, nat_le, ◌==◌, ◌&&◌, not, List, [], ◌∷◌, ◌++◌, Option, Some, None, is_some, length, get_or}
use Rattle.std.specs.Option.{option_and_then, option_map_or}
use Rattle.dist_types.specs.Flags.{has_bit}
use Rattle.dist_types.specs.Listing.{same}
use Rattle.handshake_frames.specs.Frame.{Name}
use Rattle.handshake_frames.specs.Reading.{name_frame, challenge_frame}
use Rattle.policy_audit.specs.declared.event.Event.{Event}
use Rattle.policy_audit.specs.declared.event.Event.TheVariants as event
use Rattle.policy_audit.specs.declared.reply.Reply.{Reply}
use Rattle.policy_audit.specs.declared.reply.Reply.TheVariants as reply
use Rattle.policy_audit.specs.declared.entry.Verdict.{Verdict}
use Rattle.policy_audit.specs.declared.entry.Verdict.TheVariants.{Accepted, Refused}
use Rattle.policy_audit.specs.declared.entry.Entry.{Entry}
use Rattle.policy_audit.specs.History.{History, Moment, present, first_of}

-- THE PRESENT LINK OF A PEER

-- what an answer makes of the present link of n: a frame that completes a side is answered Up
abbrev pub link_made : List ℕ → ℕ → Reply → Option ℕ → Option ℕ
link_made n l (reply.Up peer made visible) before = cond (same peer n) (Some l) before
link_made n l r before = before

-- what an entry makes of the present link of n
abbrev pub link_after : List ℕ → Verdict → Event → Option ℕ → Option ℕ
link_after n (Refused rule) e before = before
link_after n (Accepted r) (event.Frame l body) before = link_made n l r before
link_after n (Accepted r) (event.Lost l) before =
    cond (option_map_or (λ k. k == l) before false) None before
link_after n (Accepted r) (event.Disconnect m) before = cond (same m n) None before
link_after n (Accepted r) event.Restart before = None
link_after n (Accepted r) e before = before

-- the link of n that is up: the last one that was answered Up n, with no later Lost of it,
-- Disconnect n or Restart
abbrev pub present_link : List ℕ → List Entry → Option ℕ
present_link n [] = None
present_link n (e ∷ es) = link_after n e.verdict e.event (present_link n es)

-- OPENINGS

-- who opened a link, with the own challenge
pub data Start : Type 0 where
  ByPeer : ℕ → Start
  ByDial : List ℕ → ℕ → Start

-- how a link was opened, and the entries before that
pub record Opened : Type 0 where
  pub start : Start
  pub before : List Entry

-- the start that an event makes
abbrev pub start_of : Event → Option Start
start_of (event.Opened challenge) = Some (ByPeer challenge)
start_of (event.Dial peer challenge) = Some (ByDial peer challenge)
start_of e = None

-- the start, where the test holds
abbrev pub started_where : Bool → List Entry → Option Start → Option Opened
started_where holds before None = None
started_where holds before (Some start) =
    cond holds (Some (record { start = start; before = before })) None

-- how link l was opened: its number is that of the entry of an Opened or a Dial
abbrev pub opened : ℕ → List Entry → Option Opened
opened l es = first_of (λ m. started_where (m.number == l) m.before (start_of m.event)) (present es)

-- the challenge in the event that opened a link
abbrev pub challenge_in : Start → ℕ
challenge_in (ByPeer challenge) = challenge
challenge_in (ByDial peer challenge) = challenge

-- FRAMES

-- an accepted frame: its bytes, and the entries before it
pub record Taken : Type 0 where
  pub body : List ℕ
  pub before : List Entry

-- the frame of link l that an event is
abbrev pub frame_of : ℕ → List Entry → Event → Option Taken
frame_of l before (event.Frame k body) =
    cond (k == l) (Some (record { body = body; before = before })) None
frame_of l before e = None

-- these frames and then that one, if it is one
abbrev pub and_frame : List Taken → Option Taken → List Taken
and_frame frames None = frames
and_frame frames (Some frame) = frames ++ frame ∷ []

-- the frames of link l among these moments, the oldest first
abbrev pub taken_in : ℕ → List Moment → List Taken
taken_in l [] = []
taken_in l (m ∷ ms) = and_frame (taken_in l ms) (frame_of l m.before m.event)

-- the accepted frames of link l, the OLDEST first
abbrev pub taken : ℕ → List Entry → List Taken
taken l es = taken_in l (present es)

-- flags, creation, name and version of a peer that has sent these frames: an acceptor has them from
-- the Name, a dialler from the Challenge
abbrev pub given_in : Start → List Taken → Option Name
given_in (ByPeer c) (name ∷ later) = name_frame name.body
given_in (ByDial n c) (status ∷ challenge ∷ later) =
    option_and_then (λ f. Some (record {
      flags = f.flags;
      creation = f.creation;
      name = f.name;
      version = f.version;
    })) (challenge_frame challenge.body)
given_in start frames = None

-- flags, creation, name and version that the peer of link l has given
abbrev pub given : ℕ → List Entry → Option Name
given l es = option_and_then (λ o. given_in o.start (taken l es)) (opened l es)

-- the name dialled, or the name in the Name frame
abbrev pub peer_in : Start → List Taken → Option (List ℕ)
peer_in (ByPeer c) [] = None
peer_in (ByPeer c) (name ∷ later) = option_and_then (λ f. Some f.name) (name_frame name.body)
peer_in (ByDial n c) frames = Some n

-- the peer of link l
abbrev pub peer_of : ℕ → List Entry → Option (List ℕ)
peer_of l es = option_and_then (λ o. peer_in o.start (taken l es)) (opened l es)

-- whether n is the peer of link l
abbrev pub is_peer : List ℕ → ℕ → List Entry → Bool
is_peer n l es = option_map_or (λ m. same m n) (peer_of l es) false

-- a link of n is up
abbrev pub is_name_up : List ℕ → List Entry → Bool
is_name_up n es = is_some (present_link n es)

-- a link is visible where neither end is hidden: the opening isn't, and bit 0 of the peer's flags
-- is set
abbrev pub is_visible : History → ℕ → Bool
is_visible h l = not h.opening.hidden && option_map_or (λ f. has_bit 0 f.flags) (given l h.entries)
    false

-- WHOLE SIDES

-- what a link awaits: a frame of the handshake, or a message after it
pub data Awaited : Type 0 where
  AwaitName : Awaited
  AwaitAnswer : Awaited
  AwaitReply : Awaited
  AwaitStatus : Awaited
  AwaitChallenge : Awaited
  AwaitAck : Awaited
  AwaitMessage : Awaited

-- whether a link of the peer's name was up at the Name frame
abbrev pub was_up : List Taken → Bool
was_up [] = false
was_up (name ∷ later) = option_map_or (λ f. is_name_up f.name name.before) (name_frame name.body)
    false

-- what a whole side takes: from a dialler its Name, the answer to `alive` where a link of that name
-- was up, and its Reply; from an acceptor its Status, its Challenge and its Ack
abbrev pub whole_side : Start → Bool → List Awaited
whole_side (ByPeer c) false = AwaitName ∷ AwaitReply ∷ []
whole_side (ByPeer c) true = AwaitName ∷ AwaitAnswer ∷ AwaitReply ∷ []
whole_side (ByDial n c) up = AwaitStatus ∷ AwaitChallenge ∷ AwaitAck ∷ []

-- the frame that a whole side has after these
abbrev pub awaited_in : Start → List Taken → Awaited
awaited_in start frames = get_or (whole_side start (was_up frames)) (length frames) AwaitMessage

-- what link l awaits: the next frame of its side, or a message where the side is whole
abbrev pub awaits : ℕ → List Entry → Awaited
awaits l es = option_map_or (λ o. awaited_in o.start (taken l es)) (opened l es) AwaitMessage

-- the frames are a whole side, and what came after it
abbrev pub is_whole_in : Start → List Taken → Bool
is_whole_in start frames = nat_le (length (whole_side start (was_up frames))) (length frames)

-- the side of link l is whole
abbrev pub is_whole : ℕ → List Entry → Bool
is_whole l es = option_map_or (λ o. is_whole_in o.start (taken l es)) (opened l es) false

-- the last frame of a side
abbrev pub is_last : Awaited → Bool
is_last AwaitReply = true
is_last AwaitAck = true
is_last a = false
