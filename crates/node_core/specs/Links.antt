-- A link as contracts see it.
use Rattle.std.specs.Prelude.{ℕ, Bool, true, false, cond, find, position, not, nat_eq, ◌==◌, ◌&&◌}
use Rattle.std.specs.Prelude.{List, ◌++◌, ◌∷◌, [], map, Option, Some, None}
use Rattle.std.specs.List.{list_any, list_all, filter}
use Rattle.dist_types.specs.declared.row.Row.{Row}
use Rattle.dist_types.specs.Listing.{same, max_rows, Rises}
use Rattle.std.specs.Ordering.{nat_cmp}
use Rattle.admission_rules.specs.Admission.{AdmissionRules}
use Rattle.link_frames.specs.Parts.{Begun}
use Rattle.link_states.specs.Frames.{own_name}
use Rattle.policy_audit.specs.OutFrame.{OutFrame}
use Rattle.std.specs.Option.{option_map, option_map_or}
use Rattle.policy_audit.specs.Owed.{narrow}
use Rattle.node_core.specs.declared.link_state.LinkState.{LinkState}
use Rattle.node_core.specs.declared.link_state.LinkState.TheVariants as state

-- the number of the entry that opened it, its state, what is kept of a message of which parts came,
-- the frames that wait for it, those that are prepared for it, and how many more it can take
-- without memory
pub record KeptLink : Type 0 where
  pub number : ℕ
  pub state : LinkState
  pub begun : Option Begun
  pub frames : List OutFrame
  pub prepared : List OutFrame
  pub room : ℕ

-- a link without its state, of no message begun
pub record StatelessLink : Type 0 where
  pub number : ℕ
  pub frames : List OutFrame
  pub prepared : List OutFrame
  pub room : ℕ

-- the link in this state
abbrev pub in_state : LinkState → StatelessLink → KeptLink
in_state state link = record {
  number = link.number;
  state = state;
  begun = None;
  frames = link.frames;
  prepared = link.prepared;
  room = link.room;
}

-- links in the order in which they were opened
abbrev pub AreInOrder : List KeptLink → Type 0
AreInOrder links = Rises nat_cmp (map (λ x. x.number) links)

-- the link, with further frames that wait
abbrev pub with_frames : KeptLink → List OutFrame → KeptLink
with_frames link frames = record link { frames = link.frames ++ frames }

-- the link, with these frames prepared
abbrev pub with_prepared : KeptLink → List OutFrame → KeptLink
with_prepared link frames = record link { prepared = frames }

-- the link, with this room
abbrev pub with_room : KeptLink → ℕ → KeptLink
with_room link room = record link { room = room }

-- a link that was dialled to a peer: the first frame waits for it
abbrev pub dialled_link : AdmissionRules → ℕ → List ℕ → ℕ → ℕ → KeptLink
dialled_link rules number peer challenge room = record {
  number = number;
  state = state.Status (record { peer = peer; challenge = challenge });
  begun = None;
  frames = narrow (own_name rules) ∷ [];
  prepared = [];
  room = room;
}

-- the link, where nothing is kept of a message of this scope
abbrev pub broken_off : List ℕ → KeptLink → KeptLink
broken_off s link =
    record link {
      begun = cond (option_map_or (λ b. same b.scope s) link.begun false) None
          link.begun;
    }

-- the link, where this is kept of a message
abbrev pub begun_with : KeptLink → Option Begun → KeptLink
begun_with link begun = record link { begun = begun }

-- bodies of the handshake as frames
abbrev pub narrow_frames : List (List ℕ) → List OutFrame
narrow_frames bodies = map narrow bodies

-- the peer of a link that is up
abbrev pub up_peer : LinkState → Option (List ℕ)
up_peer (state.Up up) = Some up.peer
up_peer s = None

-- the peer of an own dial that is unfinished
abbrev pub dialled_peer : LinkState → Option (List ℕ)
dialled_peer (state.Status dial) = Some dial.peer
dialled_peer (state.Challenge dial) = Some dial.peer
dialled_peer (state.Ack s) = Some s.peer
dialled_peer s = None

-- the link is up and visible
abbrev pub is_shown : LinkState → Bool
is_shown (state.Up up) = up.visible
is_shown s = false

-- messages go in parts over the link: it is up, and of version 2
abbrev pub takes_parts : LinkState → Bool
takes_parts (state.Up up) = up.version == 2
takes_parts s = false

-- how many rows its peer may have in a scope
abbrev pub row_limit : LinkState → ℕ
row_limit s = cond (takes_parts s) 65536 max_rows

-- messages go over it in parts, or whole, as asked
abbrev pub takes : Bool → LinkState → Bool
takes parted s = cond parted (takes_parts s) (not (takes_parts s))

-- the link ended by a refused frame of its own
abbrev pub is_ended : LinkState → Bool
is_ended state.Ended = true
is_ended s = false

-- the peer, where it is known
abbrev pub known_peer : LinkState → Option (List ℕ)
known_peer (state.Name challenge) = None
known_peer (state.Answer s) = Some s.peer
known_peer (state.Reply s) = Some s.peer
known_peer (state.Up up) = Some up.peer
known_peer s = dialled_peer s

-- the rows are of processes of the peer, with the creation that it gave on the link, which is up
abbrev pub are_of_peer : LinkState → List Row → Bool
are_of_peer (state.Up up) rows = list_all (λ r. same r.pid.node up.peer
    && r.pid.creation == up.creation) rows
are_of_peer s rows = false

-- the own dial to a peer, if there is one
abbrev pub dial_to : List ℕ → List KeptLink → Option KeptLink
dial_to peer links = find (λ x. option_map_or (λ n. same n peer) (dialled_peer x.state) false) links

-- the number of the own dial to the peer of a link in this state, which awaits a reply
abbrev pub dial_beside : LinkState → List KeptLink → Option ℕ
dial_beside (state.Reply s) links = option_map (λ x. x.number) (dial_to s.peer links)
dial_beside s links = None

-- the place of the link of this number
abbrev pub link_place : ℕ → List KeptLink → Option ℕ
link_place number links = position (λ x. nat_eq x.number number) links

-- the links but the one of this number
abbrev pub without_number : ℕ → List KeptLink → List KeptLink
without_number number links = filter (λ x. not (nat_eq x.number number)) links

-- the link, whatever its room
abbrev pub unroomed : KeptLink → KeptLink
unroomed link = with_room link 0

-- the link, with the prepared frames waiting
abbrev pub committed : KeptLink → KeptLink
committed link = with_prepared (with_frames link link.prepared) []

-- the link, with further frames prepared if its number is one of these: those for links that take
-- parts, or those for the others
abbrev pub prepared_for : List ℕ → (Bool → List OutFrame) → KeptLink → KeptLink
prepared_for numbers frames link =
    cond (list_any (nat_eq link.number) numbers)
    (with_prepared link (link.prepared ++ frames (takes_parts link.state))) link

-- one of the links of these numbers takes messages in parts, or whole, as asked
abbrev pub is_any_in : Bool → List ℕ → List KeptLink → Bool
is_any_in parted numbers links =
    list_any (λ x. takes parted x.state && list_any (nat_eq x.number) numbers) links
