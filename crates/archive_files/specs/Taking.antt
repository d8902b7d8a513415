-- Bytes that are taken back from what is held.
use Rattle.std.specs.Prelude.{◌≡◌, ℕ, ◌-◌, List, length, take, Option, None, Some, ⊤}

-- the last bytes that were held, so many of them, are gone
abbrev pub TakesBack : Option (List ℕ) → Option (List ℕ) → ℕ → Type 0
TakesBack None new count = ⊤
TakesBack (Some held) None count = ⊥
TakesBack (Some held) (Some held') count = held' ≡ take (length held - count) held

-- a file was left: what of a line was in it is taken back, where it is to go to the next file whole
abbrev pub IsLeft : Option (List ℕ) → ℕ → Option (List ℕ) → ℕ → Type 0
IsLeft None begun held' begun' = ⊤
IsLeft (Some held) begun None begun' = ⊥
IsLeft (Some held) begun (Some held') begun' = held' ≡ take (length held - (begun - begun')) held
