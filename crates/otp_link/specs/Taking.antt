-- What comes of the bytes of a stock node.
use Rattle.std.specs.Prelude.{◌≡◌, ◌⊎◌, ⊤, ◌<◌, ◌+◌, ℕ, Bool, true, false, List, [], ◌++◌, length}
use Rattle.std.specs.Prelude.{Some, None}
use Rattle.std.specs.Int.{w16, w32, to_be_bytes}
use Rattle.dist_types.specs.declared.row.Row.{Row}
use Rattle.handshake_frames.specs.Spelling.{counted}
use Rattle.otp_edge.specs.Bodies.{IsBody}
use Rattle.otp_edge.specs.Edges.{Hears, Stays}
use Rattle.otp_edge.specs.Handed.{AreFrames}
use Rattle.otp_edge.specs.Said.{KnowsTheSame}
use Rattle.otp_edge.specs.Signals.{SaysTooMany}
use Rattle.otp_edge.specs.declared.edge_state.Edge.{Edge}
use Rattle.otp_edge.specs.declared.heard.Heard.{Heard}
use Rattle.otp_link.specs.Asking.{MayLack}
use Rattle.otp_link.specs.Counted.{Follows, IsCutAs}
use Rattle.otp_link.specs.Known.{known_of, Learns, with_peer}
use Rattle.otp_link.specs.Long.{GoesPast}
use Rattle.otp_link.specs.Offer.{IsBare, IsPeerFrame, IsSilent, SaysFlags, has_stock}
use Rattle.otp_link.specs.Pieces.{HasBody, HasFrame, is_last_of}
use Rattle.otp_link.specs.declared.fault.LinkFault.{LinkFault}
use Rattle.otp_link.specs.declared.fault.LinkFault.TheVariants as faults
use Rattle.otp_link.specs.declared.link.LinkKind.{LinkKind}
use Rattle.otp_link.specs.declared.link.OtpLink.{OtpLink}
use Rattle.otp_link.specs.declared.taking.Taken.{Taken}

-- so many bytes are used, and nothing comes of them
abbrev pub IsPassedOver : ℕ → Taken → Type 0
IsPassedOver used taken = (taken.used ≡ used) × (taken.handed.items ≡ [])
    × (taken.owed.items ≡ [])

-- the frame in which the peer says its name, a Challenge where the node here has dialled, says no
-- flags but those of a stock node
abbrev pub IsOfStock : OtpLink → List ℕ → Type 0
IsOfStock link body = (flags : ℕ) → SaysFlags link.kind.is_dialled body flags
    → has_stock flags ≡ true

-- 2 is put behind a frame that ends with the peer's name alone, and just where the link takes
-- messages in parts from then on; by any frame that says no name the link stays of its kind
pub record Agrees (kind now : LinkKind) (body : List ℕ) (in_parts : Bool) : Type 0 where
  pub says : in_parts ≡ true → IsBare kind.is_dialled body
  pub kept : kind.in_parts ≡ true → IsBare kind.is_dialled body → now.in_parts ≡ true
  pub told : (flags : ℕ) → SaysFlags kind.is_dialled body flags → in_parts ≡ now.in_parts
  pub same : IsSilent kind.is_dialled body → now ≡ kind

-- a frame of the handshake is handed in, nothing is sent back, and what the peer says of itself is
-- known. A Reply or an Ack is the last one
pub record TakesFrame (link new : OtpLink) (body : List ℕ) (taken : Taken) : Type 0 where
  pub stock : IsOfStock link body
  pub in_parts : Bool
  pub frame : List ℕ
  pub comes : IsPeerFrame in_parts body frame
  pub agrees : Agrees link.kind new.kind body in_parts
  pub used : taken.used ≡ length (counted w16 body)
  pub handed : taken.handed.items ≡ counted w16 frame
  pub owed : taken.owed.items ≡ []
  pub known : Learns new.kind link.kind.is_dialled (with_peer (known_of link)) body
      (known_of link) (known_of new)
  pub healing : new.healing ≡ link.healing
  pub up : new.takes_bodies ≡ is_last_of body

-- of a body just what the edge hears is handed in, a leave cut to what the table lists; and just
-- what the edge owes is sent back. The edge keeps its scopes and the names of both ends, and the
-- link all but when the peer is asked again
pub record TakesBody (lists : List ℕ → (Row → ℕ) → Type 0) (now : ℕ) (link new : OtpLink)
    (body : List ℕ) (taken : Taken) : Type 0 where
  pub edge : Edge
  pub after : Edge
  pub first : Heard
  pub heard : Heard
  pub begun : link.edge ≡ Some edge
  pub goes_on : new ≡ record link { edge = Some after; healing = new.healing }
  pub healing : MayLack link.healing new.healing now
  pub stays : Stays edge after
  pub hears : Hears edge after body first
  pub cut : Follows (IsCutAs lists) first heard
  pub used : taken.used ≡ length (counted w32 body)
  pub handed : link.kind.in_parts ≡ false → AreFrames heard taken.handed.items
  pub owed : taken.owed ≡ heard.owed

-- of a longer body, which goes to nobody here, nothing is kept: it is used whole, with what is
-- still to come of it; the link and its edge stay, and what is known at the peer does
pub record TakesLong (link new : OtpLink) (begin : List ℕ) (len : ℕ) (taken : Taken) : Type 0 where
  pub edge : Edge
  pub after : Edge
  pub begun : link.edge ≡ Some edge
  pub goes_on : new ≡ record link { edge = Some after }
  pub past : GoesPast edge begin
  pub stays : Stays edge after
  pub same : KnowsTheSame edge after
  pub passed : IsPassedOver (len + 4) taken

-- a frame ends the link: it says the name of no stock node, or with 2 behind it it is too long
abbrev pub EndsByFrame : OtpLink → List ℕ → LinkFault → Type 0
EndsByFrame link body faults.NotStock = IsOfStock link body → ⊥
EndsByFrame link body faults.NoMessage = ⊥
EndsByFrame link body faults.TooManyRows = ⊥
EndsByFrame link body faults.TooLong = 65534 < length body
EndsByFrame link body faults.OutOfMemory = ⊤

-- a body ends the link: it comes before both ends have said their names, or it is none of a stock
-- node, or it says too many rows
abbrev pub EndsByBody : OtpLink → List ℕ → LinkFault → Type 0
EndsByBody link body faults.NotStock = ⊥
EndsByBody link body faults.NoMessage = (link.edge ≡ None) ⊎
    ((control behind : List ℕ) → IsBody control behind body → ⊥)
EndsByBody link body faults.TooManyRows = SaysTooMany body
EndsByBody link body faults.TooLong = ⊥
EndsByBody link body faults.OutOfMemory = ⊤

-- the piece at the front ends the link
pub data Ends (link : OtpLink) (front : List ℕ) (fault : LinkFault) : Type 0 where
  by_frame : (body rest : List ℕ) → link.takes_bodies ≡ false → HasFrame front body rest
      → EndsByFrame link body fault → Ends link front fault
  by_body : (body rest : List ℕ) → link.takes_bodies ≡ true → HasBody front body rest
      → EndsByBody link body fault → Ends link front fault
  by_long : (len : ℕ) (rest : List ℕ) → link.takes_bodies ≡ true → 4194304 < len
      → front ≡ to_be_bytes w32 len ++ rest → fault ≡ faults.TooLong → Ends link front fault

-- what comes of the piece at the front: until the handshake is done a frame; then a body, a tick,
-- or a body of more than 4,194,304 bytes
pub data Takes (lists : List ℕ → (Row → ℕ) → Type 0) (now : ℕ) (link new : OtpLink)
    (front : List ℕ) (taken : Taken) : Type 0 where
  frame : (body rest : List ℕ) → link.takes_bodies ≡ false → HasFrame front body rest
      → TakesFrame link new body taken → Takes lists now link new front taken
  body : (body rest : List ℕ) → link.takes_bodies ≡ true → HasBody front body rest
      → TakesBody lists now link new body taken → new.takes_bodies ≡ true
      → Takes lists now link new front taken
  tick : (rest : List ℕ) → link.takes_bodies ≡ true → front ≡ counted w32 [] ++ rest
      → IsPassedOver 4 taken → new ≡ link → Takes lists now link new front taken
  long : (len : ℕ) (begin rest : List ℕ) → link.takes_bodies ≡ true → 4194304 < len
      → front ≡ to_be_bytes w32 len ++ begin ++ rest → TakesLong link new begin len taken
      → new.takes_bodies ≡ true → Takes lists now link new front taken
