-- The cutter of a link's bytes.
use Rattle.std.specs.Prelude.{◌≡◌, ℕ, Bool, true, false, List, Option}
use Rattle.std.specs.Int.{w16}
use Rattle.handshake_frames.specs.Stream.{IsFed}
use Rattle.link_frames.specs.Stream.{Progress, Feeds}
use Rattle.node_threads.specs.declared.cutter.Cutter.{Cutter}
use Rattle.node_threads.specs.declared.cutter.Cutter.TheVariants.{Handshake, Messages}

-- it cuts link messages
abbrev pub is_done : Cutter → Bool
is_done (Handshake rest) = false
is_done (Messages reader) = true

-- it is fed as the reader that it is, and stays a reader of that kind
abbrev pub CutsOff : Cutter → List ℕ → ℕ → Option (List ℕ) → Cutter → Type 0
CutsOff (Handshake rest) piece used body new = (later : List ℕ) × (new ≡ Handshake later)
    × IsFed w16 rest piece used body later
CutsOff (Messages reader) piece used body new = (later : Progress) × (new ≡ Messages later)
    × Feeds reader piece used body later
