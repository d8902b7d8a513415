-- Worlds in which two nodes list each other's rows, and the steps that make them.
use Rattle.std.specs.Prelude.{◌≡◌, ℕ, false, List, [], ◌∷◌, Some, codes, slice_get, IsTrue}
use Rattle.std.specs.declared.result.Result.{Result}
use Rattle.dist_types.specs.declared.pid.Pid.{Pid}
use Rattle.policy_audit.specs.declared.event.Event.TheVariants as event
use Rattle.policy_audit.specs.History.{History, past}
use Rattle.policy_audit.specs.Own.{own}
use Rattle.policy_audit.specs.Sides.{present_link}
use Rattle.policy_audit.specs.Hearing.{heard}
use Rattle.policy_audit.specs.Listed.{listed}
use Rattle.pg_world.specs.declared.side.Side.TheVariants as side
use Rattle.pg_world.specs.declared.world_step.WorldStep.{WorldStep}
use Rattle.pg_world.specs.declared.world_step.WorldStep.TheVariants as step
use Rattle.pg_world.specs.declared.world_step.WorldReply.{WorldReply}
use Rattle.pg_world.specs.declared.fault.WorldFault.{WorldFault}
use Rattle.pg_world.specs.World.{Wire, Nodes, world}
use Rattle.pg_world.specs.Steps.{IsWorldStep}
use Rattle.pg_world.specs.Views.{Exchanges}

-- v comes from w by these steps, each with its answer
abbrev pub Comes : Nodes → List WorldStep → Nodes → Type 0
Comes w [] v = w ≡ v
Comes w (t ∷ ts) v = (u : Nodes) × (r : Result WorldReply WorldFault) × IsWorldStep w t u r
    × Comes u ts v

-- ---- the nodes

-- a node that has seen nothing
abbrev pub fresh : List ℕ → History
fresh name = past (record {
  name = name;
  cookie = codes "password";
  hidden = false;
  creation = 4;
  entries = 100;
  links = 1;
}) []

-- `a@h` and `b@h`, without wires
abbrev pub two_nodes : Nodes
two_nodes = world (fresh (codes "a@h") ∷ fresh (codes "b@h") ∷ []) []

-- the first process of a node
abbrev pub first_process : List ℕ → Pid
first_process name = record { node = name; creation = 4; number = 1 }

-- ---- the steps

-- each starts the scope, and a process of it joins; then `a@h` dials `b@h`, and frames go and come
-- until none waits
abbrev pub exchange : List WorldStep
exchange =
    step.Call 0 0 (event.StartScope (codes "pg"))
    ∷ step.Call 1 0 (event.StartScope (codes "pg"))
    ∷ step.Call 0 0 event.Spawn
    ∷ step.Call 1 0 event.Spawn
    ∷ step.Call 0 0 (event.Join (codes "pg") (codes "g") (first_process (codes "a@h") ∷ []))
    ∷ step.Call 1 0 (event.Join (codes "pg") (codes "g") (first_process (codes "b@h") ∷ []))
    ∷ step.Dial 0 1 0 77
    ∷ step.Accept 0 0 123
    -- the Name, the status and the Challenge, the Reply, the Ack
    ∷ step.Hand 0 side.Dialler 0 ∷ step.Deliver 0 side.Acceptor 0
    ∷ step.Hand 0 side.Acceptor 0 ∷ step.Deliver 0 side.Dialler 0 ∷ step.Deliver 0 side.Dialler 0
    ∷ step.Hand 0 side.Dialler 0 ∷ step.Deliver 0 side.Acceptor 0
    -- with a Discover; then the answers to both Discovers
    ∷ step.Hand 0 side.Acceptor 0 ∷ step.Deliver 0 side.Dialler 0 ∷ step.Deliver 0 side.Dialler 0
    ∷ step.Hand 0 side.Dialler 0 ∷ step.Deliver 0 side.Acceptor 0 ∷ step.Deliver 0 side.Acceptor 0
    ∷ step.Deliver 0 side.Acceptor 0
    ∷ step.Hand 0 side.Acceptor 0 ∷ step.Deliver 0 side.Dialler 0 ∷ step.Deliver 0 side.Dialler 0
    ∷ step.Deliver 0 side.Dialler 0
    ∷ step.Hand 0 side.Dialler 0 ∷ step.Deliver 0 side.Acceptor 0
    ∷ []

-- and then the process of `a@h` joins once more
abbrev pub join_again : List WorldStep
join_again = step.Call 0 0 (event.Join (codes "pg") (codes "g") (first_process (codes "a@h") ∷ []))
    ∷ []

-- ---- the worlds

-- both ends of the first wire exchange the scope, nothing is under way there, and each node lists
-- the process of the other
pub record IsExchanged (w : Nodes) : Type 0 where
  pub a : History
  pub b : History
  pub wire : Wire
  pub accepted : ℕ
  pub a_stands : slice_get w.nodes 0 ≡ Some a
  pub b_stands : slice_get w.nodes 1 ≡ Some b
  pub wire_stands : slice_get w.wires 0 ≡ Some wire
  pub from_a : wire.from ≡ 0
  pub to_b : wire.to ≡ 1
  pub is_accepted : wire.accepted ≡ Some accepted
  pub none_to_a : wire.to_dialler ≡ []
  pub none_to_b : wire.to_acceptor ≡ []
  pub at_a : Exchanges a wire.dialled (codes "pg")
  pub at_b : Exchanges b accepted (codes "pg")
  pub a_lists : listed a (codes "pg") (codes "g") (first_process (codes "b@h")) ≡ 1
  pub b_lists : listed b (codes "pg") (codes "g") (first_process (codes "a@h")) ≡ 1

-- `b@h` hears `a@h` over its present link, and lists its process as often as that had joined before
pub record IsBehind (w : Nodes) : Type 0 where
  pub a : History
  pub b : History
  pub link : ℕ
  pub a_stands : slice_get w.nodes 0 ≡ Some a
  pub b_stands : slice_get w.nodes 1 ≡ Some b
  pub present : present_link (codes "a@h") b.entries ≡ Some link
  pub hears : IsTrue (heard b.opening link (codes "pg") b.entries)
  pub a_has : own a (codes "pg") (codes "g") (first_process (codes "a@h")) ≡ 2
  pub b_lists : listed b (codes "pg") (codes "g") (first_process (codes "a@h")) ≡ 1
