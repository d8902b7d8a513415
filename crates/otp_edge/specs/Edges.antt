-- What is handed in of a body.
use Rattle.std.specs.Prelude.{◌≡◌, ℕ, ◌<◌, true, List, length, get_or, map, set, None}
use Rattle.dist_types.specs.declared.pid.Pid.{Pid}
use Rattle.link_frames.specs.declared.message.Message.TheVariants as messages
use Rattle.otp_edge.specs.HeardWords.{heard_said, seen_said}
use Rattle.otp_edge.specs.Opens.{ComesOf, IsNothing, IsOnly, known_as, RunsNowhere}
use Rattle.otp_edge.specs.Processes.{pid_bytes}
use Rattle.otp_edge.specs.Said.{IsSameLink}
use Rattle.otp_edge.specs.ScopeEdges.{Seen, fresh, seen_of, is_of, is_known}
use Rattle.otp_edge.specs.Signals.{IsSent, IsNamed, HasControl}
use Rattle.otp_edge.specs.declared.edge_state.Edge.{Edge}
use Rattle.otp_edge.specs.declared.heard.Heard.{Heard}
use Rattle.otp_edge.specs.declared.open_scope.OpenScope.{OpenScope}
use Rattle.otp_edge.specs.declared.meaning.Said.{Said}
use Rattle.otp_edge.specs.declared.meaning.Said.TheVariants as saids

-- the scope is one of those that run here
pub record RunsHere (o : OpenScope) (edge : Edge) : Type 0 where
  pub place : ℕ
  pub within : place < length edge.scopes.items
  pub is : get_or edge.scopes.items place o ≡ o

-- what is known at the peer, scope by scope
abbrev pub seen_at : OpenScope → Seen
seen_at o = seen_of o.seen

abbrev pub seens : Edge → List Seen
seens edge = map seen_at edge.scopes.items

-- of the scope at that place this is known now, and of each other one what was
abbrev pub Learns : Edge → Edge → ℕ → Seen → Type 0
Learns edge new place seen = seens new ≡ set (seens edge) place seen

-- nothing is handed in, and what was known still is
pub record HearsNothing (edge new : Edge) (heard : Heard) : Type 0 where
  pub nothing : IsNothing heard
  pub same : seens new ≡ seens edge

-- ---- of a scope that runs here, at its place

-- what comes of what is said to its process, and what is known then
pub record Takes (edge new : Edge) (place : ℕ) (said : Said) (o : OpenScope) (heard : Heard)
    : Type 0 where
  pub comes : ComesOf o.scope (heard_said edge.peer said (seen_of o.seen)) heard
  pub learns : Learns edge new place (seen_said edge.peer said (seen_of o.seen))

-- the process of the peer's scope ended: nothing is known any more
pub record Ends (edge new : Edge) (place : ℕ) (other : Pid) (o : OpenScope) (heard : Heard)
    : Type 0 where
  pub known : is_known other o.seen.other ≡ true
  pub only : IsOnly (messages.Down o.scope) heard
  pub learns : Learns edge new place (fresh None)

-- ---- of a link

-- it is said to the process of a scope here
pub record IsSentTo (edge new : Edge) (to : Pid) (said : Said) (heard : Heard) : Type 0 where
  pub item : OpenScope
  pub here : RunsHere item edge
  pub own : item.own ≡ to
  pub takes : Takes edge new here.place said item heard

-- it is said to the name of a scope here
pub record IsSaidTo (edge new : Edge) (name : List ℕ) (said : Said) (heard : Heard) : Type 0 where
  pub item : OpenScope
  pub here : RunsHere item edge
  pub scope : item.scope ≡ name
  pub takes : Takes edge new here.place said item heard

-- a process of the peer asks by a name: for a scope here, or for one that doesn't run here
pub data IsAskedBy (edge new : Edge) (name : List ℕ) (p : Pid) (heard : Heard) : Type 0 where
  here : IsSaidTo edge new name (saids.Discover p) heard → IsAskedBy edge new name p heard
  nowhere : RunsNowhere name edge.scopes.items → is_of edge.peer p ≡ true
      → IsOnly (messages.Discover name) heard → seens new ≡ seens edge
      → IsAskedBy edge new name p heard

pub record IsDiscoverBy (edge new : Edge) (name : List ℕ) (p : Pid) (said : Said) (heard : Heard)
    : Type 0 where
  pub is : said ≡ saids.Discover p
  pub asked : IsAskedBy edge new name p heard

-- a process ended that is that of the peer's scope; the process of the scope here is told so
pub record IsEnded (edge new : Edge) (from to : List ℕ) (heard : Heard) : Type 0 where
  pub item : OpenScope
  pub other : Pid
  pub here : RunsHere item edge
  pub to_own : to ≡ pid_bytes item.own
  pub from_other : from ≡ pid_bytes other
  pub ends : Ends edge new here.place other item heard

-- what stays: the link, the parts of what the node says, and of each scope its name and its process
pub record Stays (edge new : Edge) : Type 0 where
  pub link : IsSameLink edge new
  pub parts : new.parts ≡ edge.parts
  pub scopes : map known_as new.scopes.items ≡ map known_as edge.scopes.items

-- what is handed in of a body, and what is known then
pub data Hears (edge new : Edge) (body : List ℕ) (heard : Heard) : Type 0 where
  none : HearsNothing edge new heard → Hears edge new body heard
  sent : (to : Pid) (said : Said) → IsSent to said body → IsSentTo edge new to said heard
      → Hears edge new body heard
  named : (name : List ℕ) (p : Pid) → IsNamed name (saids.Discover p) body
      → IsAskedBy edge new name p heard → Hears edge new body heard
  ended : (from to rest behind : List ℕ) → HasControl 5 21 from to rest behind body
      → IsEnded edge new from to heard → Hears edge new body heard

-- what is handed in of a body, whatever is known then
abbrev pub IsHeard : Edge → List ℕ → Heard → Type 0
IsHeard edge body heard = (new : Edge) × Hears edge new body heard
