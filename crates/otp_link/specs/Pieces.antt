-- What stands at the front of bytes.
use Rattle.std.specs.Prelude.{◌≡◌, ◌≢◌, ◌==◌, ◌||◌, ◌<◌, ◌≤◌, ◌^◌, ℕ, Bool, true, false}
use Rattle.std.specs.Prelude.{List, [], ◌∷◌, ◌++◌, length}
use Rattle.std.specs.Int.{Width, w16, w32, to_be_bytes}
use Rattle.handshake_frames.specs.Spelling.{counted}
use Rattle.otp_link.specs.declared.piece.Piece.{Piece}
use Rattle.otp_link.specs.declared.piece.Piece.TheVariants.{Frame, Body, Tick, Long, More}

-- none of so few bytes stands whole at the front, behind its length
abbrev pub Lacks : Width → ℕ → List ℕ → Type 0
Lacks w most bytes = (body rest : List ℕ) → length body ≤ most → bytes ≢ counted w body ++ rest

-- no frame, or no body of up to 4,194,304 bytes, stands whole at the front
abbrev pub IsUnsent : Bool → List ℕ → Type 0
IsUnsent false bytes = Lacks w16 65535 bytes
IsUnsent true bytes = Lacks w32 4194304 bytes

-- nothing whole stands at the front, however long
abbrev pub IsShort : Bool → List ℕ → Type 0
IsShort false bytes = Lacks w16 65535 bytes
IsShort true bytes = Lacks w32 4294967295 bytes

-- a frame of up to 65,535 bytes stands at the front, behind its length, and the rest behind it
abbrev pub HasFrame : List ℕ → List ℕ → List ℕ → Type 0
HasFrame bytes body rest = (length body < 2 ^ 16) × (bytes ≡ counted w16 body ++ rest)

-- so does a body of 1 to 4,194,304 bytes
abbrev pub HasBody : List ℕ → List ℕ → List ℕ → Type 0
HasBody bytes body rest = (0 < length body) × (length body ≤ 4194304)
    × (bytes ≡ counted w32 body ++ rest)

-- until the handshake is done a frame behind 2 bytes of length; then a body behind 4; one of no
-- bytes; or the first 4,096 of a longer one
abbrev pub IsPiece : Bool → List ℕ → Piece → Type 0
IsPiece is_up bytes (Frame body rest) = (is_up ≡ false) × HasFrame bytes body.now rest.now
IsPiece is_up bytes (Body body rest) = (is_up ≡ true) × HasBody bytes body.now rest.now
IsPiece is_up bytes (Tick rest) = (is_up ≡ true) × (bytes ≡ counted w32 [] ++ rest.now)
IsPiece is_up bytes (Long begin len) = (is_up ≡ true) × (4194304 < len)
    × (len < 2 ^ 32) × (length begin.now ≡ 4096) × Lacks w32 4194304 bytes
    × ((rest : List ℕ) × (bytes ≡ to_be_bytes w32 len ++ begin.now ++ rest))
IsPiece is_up bytes More = IsShort is_up bytes

-- whether a frame is the last one that an end says of a handshake: a Reply, `r`, or an Ack, `a`
abbrev pub is_last_of : List ℕ → Bool
is_last_of [] = false
is_last_of (kind ∷ rest) = (kind == 114) || (kind == 97)
