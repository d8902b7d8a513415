-- What goes out to a stock node of what the node here says.
use Rattle.std.specs.Prelude.{◌≡◌, ◌<◌, ◌≤◌, ◌^◌, ℕ, Bool, true, false, not}
use Rattle.std.specs.Prelude.{List, [], ◌++◌, length, Option, Some, None}
use Rattle.std.specs.Int.{w16, w32}
use Rattle.handshake_frames.specs.Spelling.{counted}
use Rattle.otp_edge.specs.Drops.{times_for}
use Rattle.otp_edge.specs.Said.{IsBodySaid, IsNoBody, KnowsTheSame}
use Rattle.otp_edge.specs.declared.drops.Dropped.{Dropped}
use Rattle.otp_edge.specs.declared.edge_state.Edge.{Edge}
use Rattle.otp_edge.specs.declared.life.Life.{Life}
use Rattle.otp_link.specs.Known.{Known, known_of, Learns, with_own}
use Rattle.otp_link.specs.Offer.{IsOwnFrame}
use Rattle.otp_link.specs.Pieces.{IsUnsent, is_last_of}
use Rattle.otp_link.specs.declared.link.LinkKind.{LinkKind}
use Rattle.otp_link.specs.declared.link.OtpLink.{OtpLink}

-- how far a link is in what it sends: whether its handshake is done, what is known of both ends,
-- and what was told over all links
pub record Stand : Type 0 where
  pub is_up : Bool
  pub known : Known
  pub life : Life

abbrev pub stand_of : OtpLink → Life → Stand
stand_of link life = record { is_up = link.sends_bodies; known = known_of link; life = life }

-- a link stays of its kind; but its peer may take no messages in parts
abbrev pub IsNarrowed : LinkKind → LinkKind → Type 0
IsNarrowed before after = (after.is_visible ≡ before.is_visible)
    × (after.is_dialled ≡ before.is_dialled) × (before.in_parts ≡ false → after.in_parts ≡ false)

-- of a body what the edge says, once there is one; of what is no body nothing
pub data SendsBody (before after : Stand) (body out : List ℕ) : Type 0 where
  early : before.known.edge ≡ None → after ≡ before → out ≡ [] → SendsBody before after body out
  said : (edge new : Edge) → before.known.edge ≡ Some edge
      → after.known ≡ record before.known { edge = Some new }
      → IsBodySaid edge new before.life after.life body out → SendsBody before after body out
  no_body : (edge new : Edge) → before.known.edge ≡ Some edge
      → after.known ≡ record before.known { edge = Some new }
      → IsNoBody edge body → KnowsTheSame edge new → out ≡ [] → SendsBody before after body out

-- until the handshake is done a frame, with its flags set, of which a Reply or an Ack ends it; then
-- of a body what its edge says, and of a tick nothing
pub data SendsPiece (kind : LinkKind) (before after : Stand) (piece out : List ℕ) : Type 0 where
  frame : (body sent : List ℕ) → before.is_up ≡ false → length body < 2 ^ 16
      → piece ≡ counted w16 body → IsOwnFrame kind.is_visible body sent → out ≡ counted w16 sent
      → Learns kind (not kind.is_dialled) (with_own before.known) body before.known after.known
      → after.life ≡ before.life
      → after.is_up ≡ is_last_of body → SendsPiece kind before after piece out
  message : (body : List ℕ) → before.is_up ≡ true → 0 < length body → length body ≤ 4194304
      → piece ≡ counted w32 body → SendsBody before after body out → after.is_up ≡ true
      → SendsPiece kind before after piece out
  tick : before.is_up ≡ true → piece ≡ counted w32 [] → out ≡ [] → after ≡ before
      → SendsPiece kind before after piece out

-- the piece at the front is sent, behind what was sent before
pub record SendsFront (kind : LinkKind) (before after : Stand) (bytes rest sent all : List ℕ)
    : Type 0 where
  pub piece : List ℕ
  pub out : List ℕ
  pub front : bytes ≡ piece ++ rest
  pub sends : SendsPiece kind before after piece out
  pub behind : all ≡ sent ++ out

-- one piece behind the other
pub data Sends (kind : LinkKind) (first : Stand) : Stand → List ℕ → List ℕ → Type 0 where
  none : Sends kind first first [] []
  more : (between later : Stand) (used out piece sent : List ℕ)
      → Sends kind first between used out → SendsPiece kind between later piece sent
      → Sends kind first later (used ++ piece) (out ++ sent)

-- the bytes are pieces that are sent, and the rest of them
pub record SendsUpTo (kind : LinkKind) (first after : Stand) (bytes rest out : List ℕ)
    : Type 0 where
  pub used : List ℕ
  pub front : bytes ≡ used ++ rest
  pub sends : Sends kind first after used out

-- all pieces are sent: none stands whole at the front of the rest
pub record SendsAll (kind : LinkKind) (first after : Stand) (bytes out : List ℕ) : Type 0 where
  pub rest : List ℕ
  pub sends : SendsUpTo kind first after bytes rest out
  pub unsent : IsUnsent after.is_up rest

-- how often something was dropped over a link for that reason
abbrev pub dropped_of : Option Edge → Dropped → ℕ
dropped_of None reason = 0
dropped_of (Some edge) reason = times_for reason edge.drops
