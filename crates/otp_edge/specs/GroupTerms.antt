-- The term of the group that a text names.
use Rattle.std.specs.Prelude.{ℕ, List, cond, Option, Some, None, drop, Result, Ok, Err}
use Rattle.hex.specs.Hex.{decode_of}
use Rattle.hex.specs.declared.error.FromHexError.{FromHexError}
use Rattle.external_terms.specs.Values.{atom_bytes, binary_bytes}
use Rattle.otp_edge.specs.Groups.{has_mark}

-- what hex digits stand for
abbrev pub decoded : Result (List ℕ) FromHexError → Option (List ℕ)
decoded (Ok bytes) = Some bytes
decoded (Err fault) = None

-- the only term that can have this text: behind `#b:` a binary, behind `#x:` the bytes in hex, else
-- an atom
unfoldable pub term_named : List ℕ → Option (List ℕ)
term_named text = cond (has_mark 0x62 text) (Some (binary_bytes (drop 3 text)))
    (cond (has_mark 0x78 text) (decoded (decode_of (drop 3 text))) (Some (atom_bytes text)))
