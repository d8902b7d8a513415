-- What the nodes of a world list of each other.
use Rattle.std.specs.Prelude.{◌≡◌, ℕ, Bool, false, List, [], Some, slice_get, IsTrue}
use Rattle.std.specs.Option.{option_map_or}
use Rattle.dist_types.specs.declared.pid.Pid.{Pid}
use Rattle.dist_types.specs.Listing.{same}
use Rattle.policy_audit.specs.History.{History}
use Rattle.policy_audit.specs.Own.{own}
use Rattle.policy_audit.specs.Sides.{present_link, is_visible}
use Rattle.policy_audit.specs.Links.{is_up}
use Rattle.policy_audit.specs.Hearing.{heard, told}
use Rattle.policy_audit.specs.Listed.{listed}
use Rattle.policy_audit.specs.Owed.{waiting}
use Rattle.frame_laws.specs.HeardMoment.{HearsMoment}
use Rattle.pg_world.specs.declared.side.Side.{Side}
use Rattle.pg_world.specs.World.{Wire, Nodes, other}
use Rattle.pg_world.specs.Sound.{IsEnd}

-- link a of node i and link b of node j are the two ends of one wire
pub record AreEnds (w : Nodes) (i a j b : ℕ) : Type 0 where
  pub number : ℕ
  pub wire : Wire
  pub at : Side
  pub stands : slice_get w.wires number ≡ Some wire
  pub there : IsEnd wire (other at) i a
  pub here : IsEnd wire at j b

-- whether the present link of n hears s
abbrev pub hears_node : History → List ℕ → List ℕ → Bool
hears_node h n s =
    option_map_or (λ l. heard h.opening l s h.entries) (present_link n h.entries) false

-- Where B's present link to A hears s, it is the one end of a wire whose other end is A's, and B
-- lists A's own rows of one moment. Where no present link of another node hears s, B lists no row
-- of that node.
pub record ListMoments (w : Nodes) : Type 0 where
  pub hears : (i j : ℕ) (A B : History) → slice_get w.nodes i ≡ Some A
      → slice_get w.nodes j ≡ Some B
      → (b : ℕ) (s : List ℕ) → present_link A.opening.name B.entries ≡ Some b
      → IsTrue (heard B.opening b s B.entries) → (a : ℕ) × AreEnds w i a j b × HearsMoment A a B b s
  pub unheard : (i j : ℕ) (A B : History) → slice_get w.nodes i ≡ Some A
      → slice_get w.nodes j ≡ Some B → (i ≡ j → ⊥)
      → (s : List ℕ) → hears_node B A.opening.name s ≡ false → (g : List ℕ) (p : Pid)
      → IsTrue (same p.node A.opening.name) → listed B s g p ≡ 0

-- the link is up and visible at this end, nothing waits, and the peer is told and heard in s
pub record Exchanges (h : History) (l : ℕ) (s : List ℕ) : Type 0 where
  pub up : IsTrue (is_up l h.entries)
  pub visible : IsTrue (is_visible h l)
  pub none_waits : waiting h l ≡ []
  pub tells : IsTrue (told h.opening l s h.entries)
  pub hears : IsTrue (heard h.opening l s h.entries)

-- Where both ends of a wire exchange s and nothing is under way on it, each lists exactly the
-- other's own rows of now.
abbrev pub ListNow : Nodes → Type 0
ListNow w = (n : ℕ) (x : Wire) → slice_get w.wires n ≡ Some x → (A B : History) (b : ℕ)
    → slice_get w.nodes x.from ≡ Some A → slice_get w.nodes x.to ≡ Some B → x.accepted ≡ Some b
    → x.to_acceptor ≡ [] → x.to_dialler ≡ [] → (s : List ℕ) → Exchanges A x.dialled s
    → Exchanges B b s
    → ((g : List ℕ) (p : Pid) → IsTrue (same p.node A.opening.name) → listed B s g p ≡ own A s g p)
    × ((g : List ℕ) (p : Pid) → IsTrue (same p.node B.opening.name) → listed A s g p ≡ own B s g p)
