-- The flags of a node (Distribution Protocol, Distribution Flags).
use Rattle.std.specs.Prelude.{ℕ, ◌+◌, ◌^◌, ◌==◌, Bool, not, bit_and, if◌then◌else◌}

-- whether bit k is set
abbrev pub has_bit : ℕ → ℕ → Bool
has_bit k flags = not (bit_and flags (2 ^ k) == 0)

-- what a node of this program sends: bit 24, that it speaks version 6 of the handshake, and bit 0,
-- that it is published, unless it is hidden
abbrev pub own_flags : Bool → ℕ
own_flags hidden = 2 ^ 24 + (if hidden then 0 else 2 ^ 0)
