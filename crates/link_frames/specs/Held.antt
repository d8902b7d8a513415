-- What a reader of the stream after the handshake holds between two pieces.
use Rattle.std.specs.Prelude.{◌≡◌, ⊤, ℕ, ◌≤◌, ◌<◌, List, [], ◌++◌, Option, Some, None, length, take}
use Rattle.std.specs.Int.{w32}
use Rattle.handshake_frames.specs.BodySoFar.{whole_len, bytes_so_far}
use Rattle.link_frames.specs.Stream.{max_body, ticks, ComesTooLong}
use Rattle.link_frames.specs.declared.fault.FeedFault.{FeedFault}
use Rattle.link_frames.specs.declared.fault.FeedFault.TheVariants as faults
use Rattle.link_frames.specs.declared.held.Held.{Held}
use Rattle.link_frames.specs.declared.held.Held.TheVariants.{Length, Body}

-- the bytes used since the last body, without ticks at their front
abbrev pub held_bytes : Held → List ℕ
held_bytes (Length bytes) = bytes
held_bytes (Body so_far) = bytes_so_far w32 so_far

-- the length isn't whole, or is one of a body
abbrev pub HasLength : Held → Type 0
HasLength (Length bytes) = length bytes < 4
HasLength (Body so_far) = (0 < whole_len so_far) × (whole_len so_far ≤ max_body)

-- a body that is held isn't whole
abbrev pub IsUnfinished : Held → Type 0
IsUnfinished (Length bytes) = ⊤
IsUnfinished (Body so_far) = 0 < so_far.missing

-- between two pieces no body is whole
pub record IsHeld (held : Held) : Type 0 where
  pub fits : HasLength held
  pub unfinished : IsUnfinished held

-- the bytes used of a piece are held behind the old ones, without ticks; all are used where no body
-- is whole then
pub record Takes (old : Held) (piece : List ℕ) (used : ℕ) (new : Held) : Type 0 where
  pub within : used ≤ length piece
  pub skipped : ℕ
  pub bytes : held_bytes old ++ take used piece ≡ ticks skipped ++ held_bytes new
  pub fits : HasLength new
  pub onward : used ≡ 0 → IsUnfinished new
  pub all : IsUnfinished new → used ≡ length piece

-- why a piece isn't taken
abbrev pub IsTakeFault : FeedFault → Held → List ℕ → Held → Type 0
IsTakeFault faults.TooLong old piece new = ComesTooLong (held_bytes old) piece × (new ≡ old)
IsTakeFault faults.OutOfMemory old piece new = (¬ ComesTooLong (held_bytes old) piece) × (new ≡ old)

-- a whole body is given, and nothing is held then
abbrev pub Gives : Held → Option (List ℕ) → Held → Type 0
Gives old (Some body) new = (old ≡ Body (record { bytes = body; missing = 0 })) × (new ≡ Length [])
Gives old None new = IsUnfinished old × (new ≡ old)
