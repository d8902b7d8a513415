-- The head of an answer of EPMD: its kind, and a code, which is 0 where EPMD can help.
use Rattle.std.specs.Prelude.{◌≡◌, ◌≢◌, ℕ, ◌<◌, ◌⊎◌, List, [], ◌∷◌, length}
use Rattle.epmd.specs.declared.fault.EpmdFault.{EpmdFault}
use Rattle.epmd.specs.declared.fault.EpmdFault.TheVariants as faults

-- why no code 0 stands behind this kind: another kind stands there, another code, or no more bytes
abbrev pub IsHeadFault : EpmdFault → ℕ → List ℕ → Type 0
IsHeadFault faults.NoAnswer kind bytes = (first : ℕ) × (rest : List ℕ) × (first ≢ kind) ×
    (bytes ≡ first ∷ rest)
IsHeadFault faults.Refused kind bytes = (code : ℕ) × (rest : List ℕ) × (code ≢ 0) ×
    (bytes ≡ kind ∷ code ∷ rest)
IsHeadFault faults.Short kind bytes = (bytes ≡ []) ⊎ (bytes ≡ kind ∷ [])
IsHeadFault fault kind bytes = ⊥

-- why EPMD isn't asked about a name
abbrev pub IsNameFault : EpmdFault → List ℕ → Type 0
IsNameFault faults.LongName name = 255 < length name
IsNameFault faults.OutOfMemory name = Unit {0}
IsNameFault fault name = ⊥
