-- What a reader of the handshake's stream holds between two pieces.
use Rattle.std.specs.Prelude.{◌≡◌, ⊤, ℕ, ◌≤◌, ◌<◌, ◌^◌, List, ◌++◌, Option, Some, None, length, take}
use Rattle.std.specs.Int.{w16}
use Rattle.std.specs.Option.{option_to_list}
use Rattle.handshake_frames.specs.BodySoFar.{whole_len, bytes_so_far}
use Rattle.handshake_frames.specs.declared.held.Held.{Held}
use Rattle.handshake_frames.specs.declared.held.Held.TheVariants.{Length, Body}

-- the bytes used since the last body
abbrev pub held_bytes : Held → List ℕ
held_bytes (Length first) = option_to_list first
held_bytes (Body so_far) = bytes_so_far w16 so_far

-- the length of a body was read of 2 bytes
abbrev pub HasLength : Held → Type 0
HasLength (Length first) = ⊤
HasLength (Body so_far) = whole_len so_far < 2 ^ 16

-- a body that is held isn't whole
abbrev pub IsUnfinished : Held → Type 0
IsUnfinished (Length first) = ⊤
IsUnfinished (Body so_far) = 0 < so_far.missing

-- between two pieces no body is whole
pub record IsHeld (held : Held) : Type 0 where
  pub fits : HasLength held
  pub unfinished : IsUnfinished held

-- the bytes used of a piece are held behind the old ones; all are used where no body is whole then
pub record Takes (old : Held) (piece : List ℕ) (used : ℕ) (new : Held) : Type 0 where
  pub within : used ≤ length piece
  pub bytes : held_bytes new ≡ held_bytes old ++ take used piece
  pub fits : HasLength new
  pub onward : used ≡ 0 → IsUnfinished new
  pub all : IsUnfinished new → used ≡ length piece

-- a whole body is given, and nothing is held then
abbrev pub Gives : Held → Option (List ℕ) → Held → Type 0
Gives old (Some body) new = (old ≡ Body (record { bytes = body; missing = 0 }))
    × (new ≡ Length None)
Gives old None new = IsUnfinished old × (new ≡ old)
