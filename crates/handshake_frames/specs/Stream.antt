-- A stream of bodies, each behind its length (Distribution Protocol, Distribution Handshake). The
-- width of the length is 2 bytes up to the last frame of the handshake, and 4 after it.
use Rattle.std.specs.Prelude.{◌≡◌, ◌≢◌, ℕ, ◌≤◌, ◌<◌, ◌^◌, List, [], ◌∷◌, ◌++◌, Option, Some, None, length, take, All}
use Rattle.std.specs.Int.{Width, byte_len}
use Rattle.std.specs.List.{flat_map}
use Rattle.std.specs.Option.{option_to_list}
use Rattle.handshake_frames.specs.Spelling.{counted}

-- the body's length can be written in the width
abbrev pub FitsLength : Width → List ℕ → Type 0
FitsLength w body = length body < 256 ^ byte_len w

-- no whole body stands at the front
abbrev pub IsPartial : Width → List ℕ → Type 0
IsPartial w rest = (body later : List ℕ) → FitsLength w body → rest ≢ counted w body ++ later

-- the stream is these bodies, each behind its length, and then less than a whole one
pub record Splits (w : Width) (stream : List ℕ) (bodies : List (List ℕ))
    (rest : List ℕ) : Type 0 where
  pub fit : All (FitsLength w) bodies
  pub whole : stream ≡ flat_map (counted w) bodies ++ rest
  pub partial : IsPartial w rest

-- the piece is used up to the end of the body that the rest begins
pub record EndsBody (w : Width) (rest piece : List ℕ) (used : ℕ) (body new : List ℕ) : Type 0 where
  pub onward : 0 < used
  pub within : used ≤ length piece
  pub fits : FitsLength w body
  pub whole : rest ++ take used piece ≡ counted w body
  pub empty : new ≡ []

-- the whole piece is used, and no body ends in it
pub record EndsNone (w : Width) (rest piece : List ℕ) (used : ℕ) (new : List ℕ) : Type 0 where
  pub whole : used ≡ length piece
  pub kept : new ≡ rest ++ piece
  pub partial : IsPartial w new

-- a reader that holds the rest takes that many bytes of the piece, gives the body that ends there,
-- if one does, and holds the new rest
abbrev pub IsFed : Width → List ℕ → List ℕ → ℕ → Option (List ℕ) → List ℕ → Type 0
IsFed w rest piece used (Some body) new = EndsBody w rest piece used body new
IsFed w rest piece used None new = EndsNone w rest piece used new

-- a call of a reader: the piece, how many bytes of it were used, and the body that came
pub record Call : Type 0 where
  pub piece : List ℕ
  pub used : ℕ
  pub body : Option (List ℕ)

-- one call after another, from a rest to a rest
abbrev pub AreFed : Width → List ℕ → List Call → List ℕ → Type 0
AreFed w rest [] new = new ≡ rest
AreFed w rest (call ∷ calls) new = (mid : List ℕ) × IsFed w rest call.piece call.used call.body mid
    × AreFed w mid calls new

-- the stream that the calls used
abbrev pub stream_of : List Call → List ℕ
stream_of calls = flat_map (λ call. take call.used call.piece) calls

-- the bodies that the calls gave
abbrev pub bodies_of : List Call → List (List ℕ)
bodies_of calls = flat_map (λ call. option_to_list call.body) calls
