-- A body as its bytes come.
use Rattle.std.specs.Prelude.{◌≡◌, ℕ, ◌+◌, ◌≤◌, ◌<◌, List, ◌++◌, length, take}
use Rattle.std.specs.Int.{Width, to_be_bytes}

-- the bytes that have come, and how many are missing
pub record BodySoFar : Type 0 where
  pub bytes : List ℕ
  pub missing : ℕ

-- how long the body is
abbrev pub whole_len : BodySoFar → ℕ
whole_len so_far = length so_far.bytes + so_far.missing

-- the bytes of its length, and those that have come behind it
abbrev pub bytes_so_far : Width → BodySoFar → List ℕ
bytes_so_far w so_far = to_be_bytes w (whole_len so_far) ++ so_far.bytes

-- the bytes used of a piece are added to the body; all are used where some are missing still
pub record Adds (old : BodySoFar) (piece : List ℕ) (used : ℕ) (new : BodySoFar) : Type 0 where
  pub within : used ≤ length piece
  pub bytes : new.bytes ≡ old.bytes ++ take used piece
  pub missing : used + new.missing ≡ old.missing
  pub all : 0 < new.missing → used ≡ length piece
