-- How a node registers with EPMD (Distribution Protocol, "Register a Node in EPMD"). Numbers are
-- big-endian.
use Rattle.std.specs.Prelude.{◌≡◌, ◌≢◌, ℕ, ◌+◌, ◌<◌, ◌^◌, ◌⊎◌, List, [], ◌∷◌, ◌++◌, length}
use Rattle.std.specs.Int.{w16, w32, to_be_bytes}
use Rattle.handshake_frames.specs.Spelling.{counted}
use Rattle.epmd.specs.declared.alive.NodeKind.{NodeKind}
use Rattle.epmd.specs.declared.alive.NodeKind.TheVariants.{Normal, Hidden}
use Rattle.epmd.specs.declared.fault.EpmdFault.{EpmdFault}
use Rattle.epmd.specs.declared.fault.EpmdFault.TheVariants as faults
use Rattle.epmd.specs.Head.{IsHeadFault}

-- M, or H for a hidden node
abbrev pub kind_code : NodeKind → ℕ
kind_code Normal = 77
kind_code Hidden = 72

-- behind its length x, the port, the kind, protocol 0, versions 6 and 5, the name, and nothing more
abbrev pub alive_bytes : ℕ → NodeKind → List ℕ → List ℕ
alive_bytes port kind name = to_be_bytes w16 (13 + length name) ++ 120 ∷ to_be_bytes w16 port ++
    kind_code kind ∷ 0 ∷ 0 ∷ 6 ∷ 0 ∷ 5 ∷ counted w16 name ++ 0 ∷ 0 ∷ []

-- v, the code 0, and the creation
abbrev pub registered_bytes : ℕ → List ℕ
registered_bytes creation = 118 ∷ 0 ∷ to_be_bytes w32 creation

-- why bytes behind the code 0 are no creation: they end before it does, or go on behind it
abbrev pub IsCreationFault : EpmdFault → List ℕ → Type 0
IsCreationFault faults.Short bytes = (creation : ℕ) (extra : List ℕ) → creation < 2 ^ 32 →
    bytes ≢ to_be_bytes w32 creation ++ extra
IsCreationFault faults.NoAnswer bytes = (creation : ℕ) × (extra : List ℕ) × (extra ≢ []) ×
    (bytes ≡ to_be_bytes w32 creation ++ extra)
IsCreationFault fault bytes = ⊥

-- why bytes are no answer that gives a creation: their head, or what stands behind it
abbrev pub IsAliveFault : EpmdFault → List ℕ → Type 0
IsAliveFault fault bytes = IsHeadFault fault 118 bytes ⊎
    ((rest : List ℕ) × (bytes ≡ 118 ∷ 0 ∷ rest) × IsCreationFault fault rest)
