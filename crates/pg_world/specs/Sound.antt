-- The invariant of a world.
use Rattle.std.specs.Prelude.{◌≡◌, ℕ, ◌≤◌, Bool, true, cond, ◌&&◌, ◌==◌, List, [], ◌∷◌, ◌++◌}
use Rattle.std.specs.Prelude.{Option, Some, slice_get}
use Rattle.std.specs.Prelude.{map, IsTrue}
use Rattle.policy_audit.specs.declared.event.Event.{Event}
use Rattle.policy_audit.specs.declared.event.Event.TheVariants as event
use Rattle.policy_audit.specs.declared.entry.Entry.{Entry}
use Rattle.policy_audit.specs.OutFrame.{OutFrame}
use Rattle.policy_audit.specs.History.{History, entered}
use Rattle.policy_audit.specs.Sides.{ByPeer, ByDial}
use Rattle.policy_audit.specs.Links.{is_open}
use Rattle.frame_laws.specs.Sent.{sent, delivered}
use Rattle.frame_laws.specs.Hellos.{opening_of}
use Rattle.frame_laws.specs.Spoken.{Speaks}
use Rattle.frame_laws.specs.Written.{IsNode, IsWritten}
use Rattle.pg_world.specs.declared.side.Side.{Side}
use Rattle.pg_world.specs.declared.world_step.WorldStep.{WorldStep}
use Rattle.pg_world.specs.declared.world_step.WorldStep.TheVariants as step
use Rattle.pg_world.specs.World.{Wire, Nodes, node_at, link_at, under_way, other}

-- a step brings scopes, groups and challenges within their limits, as its type has them
abbrev pub IsWrittenStep : WorldStep → Type 0
IsWrittenStep (step.Call i seat e) = IsWritten e
IsWrittenStep (step.Dial i j seat c) = IsWritten (event.Dial [] c)
IsWrittenStep (step.Accept n seat c) = IsWritten (event.Opened c)
IsWrittenStep t = Unit {0}

-- ---- one node

-- a frame comes on a link that an earlier entry may have opened
abbrev pub IsLate : List Entry → Event → Type 0
IsLate es (event.Frame l body) = l ≤ entered es
IsLate es e = Unit {0}

-- no frame came on a link before that was opened
abbrev pub FramesAreLate : List Entry → Type 0
FramesAreLate [] = Unit {0}
FramesAreLate (e ∷ es) = IsLate es e.event × FramesAreLate es

-- ---- one wire

-- the ends of a wire are what the steps made them: a dial to the name of the other node, and an
-- opening there
pub record IsWired (hs : List History) (x : Wire) : Type 0 where
  pub dialler : History
  pub acceptor : History
  pub challenge : ℕ
  pub from_stands : slice_get hs x.from ≡ Some dialler
  pub to_stands : slice_get hs x.to ≡ Some acceptor
  pub dial : opening_of x.dialled dialler.entries ≡ Some (ByDial acceptor.opening.name challenge)
  pub opening : (l : ℕ) → x.accepted ≡ Some l → (c : ℕ)
      × (opening_of l acceptor.entries ≡ Some (ByPeer c))

-- the bodies of these frames
abbrev pub bodies : List OutFrame → List (List ℕ)
bodies fs = map (λ f. f.body) fs

-- all that a node handed out of a link; none where there is no link
abbrev pub handed_of : Option History → Option ℕ → List (List ℕ)
handed_of (Some h) (Some l) = bodies (sent l h.entries)
handed_of h l = []

-- all that came on it
abbrev pub came_of : Option History → Option ℕ → List (List ℕ)
came_of (Some h) (Some l) = delivered l h.entries
came_of h l = []

-- more may come there: it isn't opened yet, or it is open
abbrev pub gets_of : Option History → Option ℕ → Bool
gets_of (Some h) (Some l) = is_open l h.entries
gets_of h l = true

-- what was handed out at the other side is what came at this side, and then what is under way to
-- it, in order: until the link at this side ends. Before it is opened all of it is under way.
abbrev pub Carries : List History → Wire → Side → Type 0
Carries hs x to = IsTrue (gets_of (slice_get hs (node_at to x)) (link_at to x))
    → came_of (slice_get hs (node_at to x)) (link_at to x) ++ bodies (under_way to x)
    ≡ handed_of (slice_get hs (node_at (other to) x)) (link_at (other to) x)

-- the version of link messages that two nodes share, where they know these: 2, where both know it
abbrev pub shared : ℕ → ℕ → ℕ
shared m n = cond (m == 2 && n == 2) 2 1

-- the link at this side spoke, whenever its side was whole, the version that both nodes share
abbrev pub SpeaksShared : List History → Wire → Side → Type 0
SpeaksShared hs x at = (h k : History) (l : ℕ) → slice_get hs (node_at at x) ≡ Some h
    → slice_get hs (node_at (other at) x) ≡ Some k → link_at at x ≡ Some l
    → Speaks h.opening l (shared h.opening.links k.opening.links) h.entries

-- link l of node i is the end of a wire at a side
pub record IsEnd (x : Wire) (at : Side) (i l : ℕ) : Type 0 where
  pub node : node_at at x ≡ i
  pub link : link_at at x ≡ Some l

-- link l of node i is the end of a wire
pub record HasEnd (xs : List Wire) (i l : ℕ) : Type 0 where
  pub number : ℕ
  pub wire : Wire
  pub at : Side
  pub stands : slice_get xs number ≡ Some wire
  pub ends : IsEnd wire at i l

-- ---- the whole

-- Each history is a node's, and their names differ. Each wire was dialled from the one node to the
-- name of the other, and opened there; it carries to both sides what was handed out at the other,
-- and its ends speak the version that both nodes share. A link is the end of one wire at most, at
-- one side, and an open link is one.
pub record IsWorld (w : Nodes) : Type 0 where
  pub nodes : (i : ℕ) (h : History) → slice_get w.nodes i ≡ Some h → IsNode h
  pub late : (i : ℕ) (h : History) → slice_get w.nodes i ≡ Some h → FramesAreLate h.entries
  pub names : (i j : ℕ) (h k : History) → slice_get w.nodes i ≡ Some h
      → slice_get w.nodes j ≡ Some k → h.opening.name ≡ k.opening.name → i ≡ j
  pub wired : (n : ℕ) (x : Wire) → slice_get w.wires n ≡ Some x → IsWired w.nodes x
  pub carried : (n : ℕ) (x : Wire) → slice_get w.wires n ≡ Some x → (to : Side)
      → Carries w.nodes x to
  pub spoken : (n : ℕ) (x : Wire) → slice_get w.wires n ≡ Some x → (at : Side) → SpeaksShared
      w.nodes x at
  pub once : (m n : ℕ) (x y : Wire) (j k : Side) (i l : ℕ) → slice_get w.wires m ≡ Some x
      → slice_get w.wires n ≡ Some y → IsEnd x j i l → IsEnd y k i l → (m ≡ n) × (j ≡ k)
  pub ends : (i : ℕ) (h : History) → slice_get w.nodes i ≡ Some h → (l : ℕ)
      → IsTrue (is_open l h.entries) → HasEnd w.wires i l
