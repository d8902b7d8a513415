-- Streams after the handshake: bodies, each behind its length in 4 bytes, with ticks between them.
-- A tick is a length of 0 (Distribution Protocol, Protocol between Connected Nodes).
use Rattle.std.specs.Prelude.{◌≡◌, ℕ, zero, suc, ◌≤◌, ◌<◌, ◌^◌, Bool, true, false, ◌⊎◌, List, [], ◌∷◌, ◌++◌, Option, Some, None, length, take, filter, All}
use Rattle.std.specs.Int.{w32, to_be_bytes}
use Rattle.handshake_frames.specs.Spelling.{counted}
use Rattle.handshake_frames.specs.Stream.{IsPartial, Splits, Call}
use Rattle.link_frames.specs.declared.fault.FeedFault.{FeedFault}
use Rattle.link_frames.specs.declared.fault.FeedFault.TheVariants as faults

-- the most bytes of a body
abbrev pub max_body : ℕ
max_body = 4194304

-- that many ticks
abbrev pub ticks : ℕ → List ℕ
ticks zero = []
ticks (suc n) = 0 ∷ 0 ∷ 0 ∷ 0 ∷ ticks n

-- a length above the limit stands at the front
pub record BeginsTooLong (bytes : List ℕ) : Type 0 where
  pub long : ℕ
  pub later : List ℕ
  pub above : max_body < long
  pub fits : long < 2 ^ 32
  pub begins : bytes ≡ to_be_bytes w32 long ++ later

-- no whole body stands at the front, no tick, and no length above the limit
pub record IsRest (bytes : List ℕ) : Type 0 where
  pub partial : IsPartial w32 bytes
  pub short : ¬ BeginsTooLong bytes

-- ---- one call

-- the piece is used up to the end of the body that stands behind ticks
pub record EndsBody (rest piece : List ℕ) (used : ℕ) (body new : List ℕ) : Type 0 where
  pub onward : 0 < used
  pub within : used ≤ length piece
  pub skipped : ℕ
  pub whole : rest ++ take used piece ≡ ticks skipped ++ counted w32 body
  pub some : 0 < length body
  pub fits : length body ≤ max_body
  pub empty : new ≡ []

-- the whole piece is used, and no body ends in it
pub record EndsNone (rest piece : List ℕ) (used : ℕ) (new : List ℕ) : Type 0 where
  pub whole : used ≡ length piece
  pub skipped : ℕ
  pub kept : rest ++ piece ≡ ticks skipped ++ new
  pub left : IsRest new

-- a reader that holds the rest takes that many bytes of the piece, gives the body that ends there,
-- if one does, and holds the new rest
abbrev pub IsFed : List ℕ → List ℕ → ℕ → Option (List ℕ) → List ℕ → Type 0
IsFed rest piece used (Some body) new = EndsBody rest piece used body new
IsFed rest piece used None new = EndsNone rest piece used new

-- behind ticks a length above the limit comes, before any body
pub record ComesTooLong (rest piece : List ℕ) : Type 0 where
  pub skipped : ℕ
  pub bytes : List ℕ
  pub behind : rest ++ piece ≡ ticks skipped ++ bytes
  pub begins : BeginsTooLong bytes

-- what is seen of a reader: the bytes that it has used since its last body, without ticks at their
-- front, and whether it has answered that a body is too long
pub record Progress : Type 0 where
  pub rest : List ℕ
  pub too_long : Bool

-- a reader that goes on is fed, and goes on
pub record Feeds (old : Progress) (piece : List ℕ) (used : ℕ) (body : Option (List ℕ))
    (new : Progress) : Type 0 where
  pub going : old.too_long ≡ false
  pub goes : new.too_long ≡ false
  pub fed : IsFed old.rest piece used body new.rest

-- a body is too long, now or before
abbrev pub IsTooLong : Progress → List ℕ → Type 0
IsTooLong reader piece = (reader.too_long ≡ true) ⊎ ComesTooLong reader.rest piece

-- why a piece isn't used, and what is seen of the reader then
abbrev pub IsFeedFault : FeedFault → Progress → List ℕ → Progress → Type 0
IsFeedFault faults.TooLong old piece new = IsTooLong old piece
    × (new ≡ record { rest = old.rest; too_long = true })
IsFeedFault faults.OutOfMemory old piece new = (old.too_long ≡ false)
    × (¬ ComesTooLong old.rest piece) × (new ≡ old)

-- ---- a stream

-- whether a frame is a body; one without bytes is a tick
abbrev pub is_body : List ℕ → Bool
is_body [] = false
is_body (byte ∷ bytes) = true

-- the stream is these bodies, each behind its length, with ticks between them, and then less than a
-- whole body
pub record SplitsLink (stream : List ℕ) (bodies : List (List ℕ)) (rest : List ℕ) : Type 0 where
  pub frames : List (List ℕ)
  pub splits : Splits w32 stream frames rest
  pub given : bodies ≡ filter is_body frames
  pub within : All (λ frame. length frame ≤ max_body) frames
  pub short : ¬ BeginsTooLong rest

-- one call after another, from a rest to a rest
abbrev pub AreFed : List ℕ → List Call → List ℕ → Type 0
AreFed rest [] new = new ≡ rest
AreFed rest (call ∷ calls) new = (mid : List ℕ) × IsFed rest call.piece call.used call.body mid
    × AreFed mid calls new
