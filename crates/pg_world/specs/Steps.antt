-- What one step makes of a world.
use Rattle.std.specs.Prelude.{◌≡◌, ℕ, Bool, true, false, cond, List, [], ◌∷◌, ◌++◌, Option, Some, None, Ok, Err, slice_get, slice_set, length}
use Rattle.std.specs.declared.result.Result.{Result}
use Rattle.policy_audit.specs.declared.event.Event.{Event}
use Rattle.policy_audit.specs.declared.event.Event.TheVariants as event
use Rattle.policy_audit.specs.declared.reply.Reply.{Reply}
use Rattle.policy_audit.specs.OutFrame.{OutFrame}
use Rattle.policy_audit.specs.History.{History}
use Rattle.node_core.specs.declared.fault.CoreFault.{CoreFault}
use Rattle.node_core.specs.Step.{IsStepped}
use Rattle.pg_world.specs.declared.side.Side.{Side}
use Rattle.pg_world.specs.declared.side.End.{End}
use Rattle.pg_world.specs.declared.world_step.WorldStep.{WorldStep}
use Rattle.pg_world.specs.declared.world_step.WorldStep.TheVariants as step
use Rattle.pg_world.specs.declared.world_step.WorldReply.{WorldReply}
use Rattle.pg_world.specs.declared.fault.WorldFault.{WorldFault}
use Rattle.pg_world.specs.declared.fault.WorldFault.TheVariants as fault
use Rattle.pg_world.specs.World.{Wire, Nodes, node_at, link_at, under_way, other, dialled, with_queue, with_link}
use Rattle.pg_world.specs.Queues.{plain, count_handed, place_dialled, link_opened, joined_by, left_by, cut_by}

-- what a step comes to: it is refused by itself, or one node answers one event
pub data Turn : Type 0 where
  Refuses : WorldFault → Turn
  Asks : (node seat : ℕ) → Event → Turn

-- an event of a link or of the node itself, which no call makes
abbrev pub is_wrong : Event → Bool
is_wrong event.Restart = true
is_wrong (event.Dial n c) = true
is_wrong (event.Opened c) = true
is_wrong (event.Frame l body) = true
is_wrong (event.Lost l) = true
is_wrong (event.Take l) = true
is_wrong e = false

-- ---- where it happens, or the first fault

-- the link at a side, at a node that is there
abbrev pub link_end : Wire → Side → Option ℕ → Result End WorldFault
link_end x at (Some l) = Ok (record { node = node_at at x; link = l })
link_end x at None = Err fault.NotAccepted

-- the end of a wire that is there
abbrev pub wire_end : List History → Side → Wire → Result End WorldFault
wire_end hs at x = elim (slice_get hs (node_at at x)) [
  | Some h ↦ link_end x at (link_at at x)
  | None ↦ Err fault.NoNode
]

-- the end of a wire at a side
abbrev pub end_at : Nodes → ℕ → Side → Result End WorldFault
end_at w n at = elim (slice_get w.wires n) [
  | Some x ↦ wire_end w.nodes at x
  | None ↦ Err fault.NoWire
]

-- the node that opens a wire, if it hasn't
abbrev pub opener : Wire → Option ℕ → Result ℕ WorldFault
opener x (Some l) = Err fault.AcceptedAlready
opener x None = Ok x.to

-- that node, if it is there
abbrev pub wire_opener : List History → Wire → Result ℕ WorldFault
wire_opener hs x = elim (slice_get hs x.to) [
  | Some h ↦ opener x x.accepted
  | None ↦ Err fault.NoNode
]

-- the node at which a wire is to be opened
abbrev pub opener_at : Nodes → ℕ → Result ℕ WorldFault
opener_at w n = elim (slice_get w.wires n) [
  | Some x ↦ wire_opener w.nodes x
  | None ↦ Err fault.NoWire
]

-- the frames under way to a side of a wire
abbrev pub queue_at : Nodes → ℕ → Side → List OutFrame
queue_at w n at = elim (slice_get w.wires n) [ Some x ↦ under_way at x | None ↦ [] ]

-- ---- what it comes to

-- what comes of it at this end
abbrev pub at_end : Result End WorldFault → (End → Turn) → Turn
at_end (Ok e) f = f e
at_end (Err f) g = Refuses f

-- the node answers, if it is there
abbrev pub asks : List History → ℕ → ℕ → Event → Turn
asks hs i seat e = elim (slice_get hs i) [ Some h ↦ Asks i seat e | None ↦ Refuses fault.NoNode ]

-- a node dials another by its name, if both are there
abbrev pub asks_dial : List History → ℕ → ℕ → ℕ → ℕ → Turn
asks_dial hs i j seat challenge =
    elim (slice_get hs j) [
      | Some h ↦ asks hs i seat (event.Dial h.opening.name challenge)
      | None ↦ Refuses fault.NoNode
    ]

-- the other node of a wire opens it
abbrev pub asks_opened : Result ℕ WorldFault → ℕ → ℕ → Turn
asks_opened (Ok i) seat challenge = Asks i seat (event.Opened challenge)
asks_opened (Err f) seat challenge = Refuses f

-- the oldest frame under way comes, if there is one
abbrev pub asks_frame : ℕ → List OutFrame → End → Turn
asks_frame seat [] e = Refuses fault.NothingUnderWay
asks_frame seat (f ∷ fs) e = Asks e.node seat (event.Frame e.link f.body)

-- what a step comes to
abbrev pub turn_of : Nodes → WorldStep → Turn
turn_of w (step.Call i seat e) = cond (is_wrong e) (Refuses fault.WrongEvent)
    (asks w.nodes i seat e)
turn_of w (step.Dial i j seat challenge) = asks_dial w.nodes i j seat challenge
turn_of w (step.Accept n seat challenge) = asks_opened (opener_at w n) seat challenge
turn_of w (step.Hand n at seat) = at_end (end_at w n at) (λ e. Asks e.node seat (event.Take e.link))
turn_of w (step.Deliver n at seat) = at_end (end_at w n at) (asks_frame seat (queue_at w n at))
turn_of w (step.Cut n at seat) = at_end (end_at w n at) (λ e. Asks e.node seat (event.Lost e.link))
turn_of w (step.Restart i seat) = asks w.nodes i seat event.Restart

-- ---- what it makes of the wires, and what is answered

-- the wire of that number changed, and no other
abbrev pub changed : ℕ → (Wire → Wire) → List Wire → List Wire
changed n f xs = elim (slice_get xs n) [ Some x ↦ slice_set xs n (f x) | None ↦ xs ]

-- the queue towards a side changed, and no other
abbrev pub changed_queue : Side → (List OutFrame → List OutFrame) → Wire → Wire
changed_queue at f x = with_queue at (f (under_way at x)) x

-- the wire of a dial that got a link
abbrev pub new_wire : ℕ → ℕ → Option ℕ → List Wire
new_wire i j (Some l) = dialled i j l ∷ []
new_wire i j None = []

-- the wires after the node's answer
abbrev pub wires_after : WorldStep → Result Reply CoreFault → List Wire → List Wire
wires_after (step.Dial i j seat c) a xs = xs ++ new_wire i j (link_opened a)
wires_after (step.Accept n seat c) a xs = changed n (with_link (link_opened a)) xs
wires_after (step.Hand n at seat) a xs = changed n (changed_queue (other at) (joined_by a)) xs
wires_after (step.Deliver n at seat) a xs = changed n (changed_queue at (left_by a)) xs
wires_after (step.Cut n at seat) a xs = changed n (changed_queue at (cut_by a)) xs
wires_after t a xs = xs

-- what the step is answered
abbrev pub answer_of : WorldStep → Result Reply CoreFault → List Wire → Result WorldReply WorldFault
answer_of (step.Dial i j seat c) a xs = place_dialled (length xs) a
answer_of (step.Hand n at seat) a xs = count_handed a
answer_of t a xs = plain a

-- ---- the whole

-- one step of one node: no other node changes, and of the wires what the answer changes
pub record IsAsked (old : Nodes) (t : WorldStep) (i seat : ℕ) (e : Event) (new : Nodes)
    (result : Result WorldReply WorldFault) : Type 0 where
  pub before : History
  pub after : History
  pub answer : Result Reply CoreFault
  pub stands : slice_get old.nodes i ≡ Some before
  pub stepped : IsStepped before seat e after answer
  pub nodes : new.nodes ≡ slice_set old.nodes i after
  pub wires : new.wires ≡ wires_after t answer old.wires
  pub answered : result ≡ answer_of t answer old.wires

-- what a step does that comes to this
abbrev pub Turns : Nodes → WorldStep → Turn → Nodes → Result WorldReply WorldFault → Type 0
Turns old t (Refuses f) new result = (result ≡ Err f) × (new ≡ old)
Turns old t (Asks i seat e) new result = IsAsked old t i seat e new result

-- a step of a world: its first fault, or one step of one node
unfoldable pub IsWorldStep : Nodes → WorldStep → Nodes → Result WorldReply WorldFault → Type 0
IsWorldStep old t new result = Turns old t (turn_of old t) new result
