-- Why bytes don't begin with what is due.
use Rattle.std.specs.Prelude.{◌≢◌, ◌<◌, List, ◌++◌, ℕ, length}
use Rattle.external_terms.specs.declared.fault.TermFault.{TermFault}
use Rattle.external_terms.specs.declared.fault.TermFault.TheVariants as faults

-- the bytes are the beginning of one, and not all of it
abbrev pub IsCut : (List ℕ → Type 0) → List ℕ → Type 0
IsCut Spells bytes = (more : List ℕ) × (0 < length more) × Spells (bytes ++ more)

-- whatever stands behind the bytes, they don't begin with one
abbrev pub NeverBegins : (List ℕ → Type 0) → List ℕ → Type 0
NeverBegins Spells bytes = (more piece rest : List ℕ) → Spells piece → bytes ++ more ≢ piece ++ rest

-- why the bytes don't begin with what is spelled so
abbrev pub IsTermFault : TermFault → (List ℕ → Type 0) → List ℕ → Type 0
IsTermFault faults.Truncated Spells bytes = IsCut Spells bytes
IsTermFault faults.UnknownTag Spells bytes = NeverBegins Spells bytes
