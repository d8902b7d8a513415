-- What is known of both ends of a link.
use Rattle.std.specs.Prelude.{◌≡◌, ◌⊎◌, ℕ, Bool, false, List, []}
use Rattle.std.specs.Prelude.{Option, Some, None, IsNone, IsSome}
use Rattle.dist_types.specs.Text.{is_node_name}
use Rattle.otp_edge.specs.declared.edge_state.Edge.{Edge}
use Rattle.otp_edge.specs.declared.scope_edge.Run.{Run}
use Rattle.otp_link.specs.Offer.{IsSilent, SaysRun}
use Rattle.otp_link.specs.declared.link.LinkKind.{LinkKind}
use Rattle.otp_link.specs.declared.link.OtpLink.{OtpLink}

-- the runs that wait until both ends have said theirs, and then the edge
pub record Known : Type 0 where
  pub own : Option Run
  pub peer : Option Run
  pub edge : Option Edge

-- what a link knows of them
abbrev pub known_of : OtpLink → Known
known_of link = record { own = link.own; peer = link.peer; edge = link.edge }

-- the run of the own end is this one, or the peer's is
abbrev pub with_own : Known → Option Run → Known
with_own known run = record known { own = run }

abbrev pub with_peer : Known → Option Run → Known
with_peer known run = record known { peer = run }

-- the run of that name and that creation; none where the name is none
abbrev pub IsRunOf : List ℕ → ℕ → Option Run → Type 0
IsRunOf name creation None = is_node_name name ≡ false
IsRunOf name creation (Some run) = (run.node ≡ name) × (run.creation ≡ creation)

-- an edge begins between both ends where there was none: in parts where the link is, without a
-- scope or a part of a message
pub record Begins (kind : LinkKind) (before : Known) (edge : Edge) : Type 0 where
  pub none : IsNone before.edge
  pub own : before.own ≡ Some edge.own
  pub peer : before.peer ≡ Some edge.peer
  pub in_parts : edge.in_parts ≡ kind.in_parts
  pub scopes : edge.scopes.items ≡ []
  pub parts : edge.parts ≡ None

-- once both ends are known there is an edge
abbrev pub IsMet : Known → Type 0
IsMet known = IsSome known.own → IsSome known.peer → IsSome known.edge

-- the edge begins where both ends are known; else all that is known stays
abbrev pub Meets : LinkKind → Known → Known → Type 0
Meets kind before after = (IsMet before × (after ≡ before))
    ⊎ ((edge : Edge) × (after.edge ≡ Some edge) × Begins kind before edge)

-- what is known behind a frame: where an end says its name in it, the run of that end as well, and
-- the edge where both are known; behind any other frame what was
pub data Learns (kind : LinkKind) (is_challenge : Bool) (with_run : Option Run → Known)
    (body : List ℕ) (before after : Known) : Type 0 where
  says : (name : List ℕ) (creation : ℕ) (run : Option Run)
      → SaysRun is_challenge body name creation → IsRunOf name creation run
      → Meets kind (with_run run) after
      → Learns kind is_challenge with_run body before after
  silent : IsSilent is_challenge body → after ≡ before
      → Learns kind is_challenge with_run body before after
