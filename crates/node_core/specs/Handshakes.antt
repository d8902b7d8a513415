-- What the outcome of a frame of the handshake makes of the kept links.
use Rattle.std.specs.Prelude.{◌≡◌, ℕ, ◌≤◌, Bool, false, cond, List, [], ◌++◌, Option, Some, None}
use Rattle.std.specs.Prelude.{find}
use Rattle.std.specs.List.{insert}
use Rattle.std.specs.Option.{option_map, option_map_or}
use Rattle.dist_types.specs.Listing.{same}
use Rattle.dist_types.specs.Difference.{is_empty}
use Rattle.policy_audit.specs.OutFrame.{OutFrame}
use Rattle.link_states.specs.States.{Linked}
use Rattle.node_core.specs.declared.link_state.LinkState.{LinkState}
use Rattle.node_core.specs.declared.link_state.LinkState.TheVariants as states
use Rattle.node_core.specs.Links.{KeptLink, StatelessLink, in_state, up_peer, dial_beside}
use Rattle.node_core.specs.Links.{narrow_frames, without_number}

-- the link takes so many frames more without memory
pub record IsReady (link : StatelessLink) (frames : ℕ) : Type 0 where
  pub idle : link.prepared ≡ []
  pub room : frames ≤ link.room

-- the link in this state, with further frames that wait, and with this room; it has begun no
-- message
abbrev pub moved_on : LinkState → List OutFrame → ℕ → KeptLink → KeptLink
moved_on state frames room link = record {
  number = link.number;
  state = state;
  begun = None;
  frames = link.frames ++ frames;
  prepared = [];
  room = room;
}

-- the links but the one of this number, if there is one
abbrev pub without_link : Option ℕ → List KeptLink → List KeptLink
without_link None links = links
without_link (Some number) links = without_number number links

-- the number of the link that is up with this peer
abbrev pub older_of : List ℕ → List KeptLink → Option ℕ
older_of peer links =
    option_map (λ x. x.number) (find (λ x. option_map_or (λ n. same n peer) (up_peer x.state) false)
    links)

-- a link is put in at a place, in this state and with further frames that wait, and another is gone
pub record HaveMoved (place : ℕ) (link : StatelessLink) (state : LinkState) (frames : List OutFrame)
    (gone : Option ℕ) (old new : List KeptLink) : Type 0 where
  pub room : ℕ
  pub links : new ≡ without_link gone
      (insert old place (moved_on state frames room (in_state state link)))

-- the handshake of the link goes on, perhaps in place of the own dial beside it
abbrev pub HaveGoneOn : ℕ → StatelessLink → LinkState → List (List ℕ) → Bool → List KeptLink
    → List KeptLink → Type 0
HaveGoneOn place link state bodies gives_up old new =
    HaveMoved place link state (narrow_frames bodies) (cond gives_up (dial_beside state old) None)
    old
    new

-- the link has ended, and is put in again where frames wait for it
pub record HaveEnded (place : ℕ) (link : StatelessLink) (bodies : List (List ℕ))
    (old new : List KeptLink) : Type 0 where
  pub room : ℕ
  pub links : new ≡ cond (is_empty (link.frames ++ narrow_frames bodies)) old
      (insert old place (moved_on states.Ended (narrow_frames bodies) room
      (in_state states.Ended link)))

-- the link is up, and its peer's older one is gone
abbrev pub HaveComeUp : ℕ → StatelessLink → Linked → List (List ℕ) → List OutFrame → List KeptLink
    → List KeptLink → Type 0
HaveComeUp place link up bodies discovers old new =
    HaveMoved place link (states.Up up) (narrow_frames bodies ++ cond up.visible discovers [])
    (older_of up.peer old) old new
