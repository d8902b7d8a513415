-- Several nodes, and the wires between them.
use Rattle.std.specs.Prelude.{◌≡◌, ◌≢◌, ℕ, ◌<◌, List, [], Option, Some, None, length, map, slice_get}
use Rattle.policy_audit.specs.OutFrame.{OutFrame}
use Rattle.policy_audit.specs.History.{History}
use Rattle.node_core.specs.Recorded.{Recorded}
use Rattle.pg_world.specs.declared.side.Side.{Side}
use Rattle.pg_world.specs.declared.side.Side.TheVariants as side

-- a wire: the nodes at its two sides, the link of each there, and the frames under way towards
-- each, the oldest first
pub record Wire : Type 0 where
  pub from : ℕ
  pub to : ℕ
  pub dialled : ℕ
  pub accepted : Option ℕ
  pub to_dialler : List OutFrame
  pub to_acceptor : List OutFrame

-- the histories of the nodes, and the wires in the order in which they were made
pub record Nodes : Type 0 where
  pub nodes : List History
  pub wires : List Wire

-- the histories of these nodes
abbrev pub histories : List Recorded → List History
histories nodes = map (λ node. node.history) nodes

-- these nodes and wires
abbrev pub world : List History → List Wire → Nodes
world hs xs = record { nodes = hs; wires = xs }

-- the node at a side of a wire
abbrev pub node_at : Side → Wire → ℕ
node_at side.Dialler x = x.from
node_at side.Acceptor x = x.to

-- its link there
abbrev pub link_at : Side → Wire → Option ℕ
link_at side.Dialler x = Some x.dialled
link_at side.Acceptor x = x.accepted

-- the frames under way towards that side
abbrev pub under_way : Side → Wire → List OutFrame
under_way side.Dialler x = x.to_dialler
under_way side.Acceptor x = x.to_acceptor

-- the other side
abbrev pub other : Side → Side
other side.Dialler = side.Acceptor
other side.Acceptor = side.Dialler

-- a wire that was dialled and isn't accepted yet
abbrev pub dialled : ℕ → ℕ → ℕ → Wire
dialled i j l = record {
  from = i;
  to = j;
  dialled = l;
  accepted = None;
  to_dialler = [];
  to_acceptor = [];
}

-- with these frames under way towards that side
abbrev pub with_queue : Side → List OutFrame → Wire → Wire
with_queue side.Dialler fs x = record {
  from = x.from;
  to = x.to;
  dialled = x.dialled;
  accepted = x.accepted;
  to_dialler = fs;
  to_acceptor = x.to_acceptor;
}
with_queue side.Acceptor fs x = record {
  from = x.from;
  to = x.to;
  dialled = x.dialled;
  accepted = x.accepted;
  to_dialler = x.to_dialler;
  to_acceptor = fs;
}

-- with this link at the acceptor's side, if there is one
abbrev pub with_link : Option ℕ → Wire → Wire
with_link (Some l) x = record {
  from = x.from;
  to = x.to;
  dialled = x.dialled;
  accepted = Some l;
  to_dialler = x.to_dialler;
  to_acceptor = x.to_acceptor;
}
with_link None x = x

-- both nodes of each wire are there
abbrev pub HaveNodes : Nodes → Type 0
HaveNodes w = (n : ℕ) (x : Wire) → slice_get w.wires n ≡ Some x → (x.from < length w.nodes)
    × (x.to < length w.nodes)

-- ---- names

-- no two nodes have one name
abbrev pub DifferInName : List History → Type 0
DifferInName hs = (i j : ℕ) (h k : History) → i < j → slice_get hs i ≡ Some h
    → slice_get hs j ≡ Some k → h.opening.name ≢ k.opening.name

-- two nodes have one name
pub record ShareAName (hs : List History) : Type 0 where
  pub first : ℕ
  pub second : ℕ
  pub one : History
  pub another : History
  pub before : first < second
  pub first_stands : slice_get hs first ≡ Some one
  pub second_stands : slice_get hs second ≡ Some another
  pub same : one.opening.name ≡ another.opening.name
