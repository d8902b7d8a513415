-- When a new file begins, and which begin.
use Rattle.std.specs.Prelude.{◌≡◌, ℕ, ◌+◌, ◌<◌, List, [], ◌∷◌, ◌++◌, length}
use Rattle.std.specs.Prelude.{Option, None, Some}
use Rattle.std.specs.Option.{option_map}
use Rattle.archive_files.specs.declared.line.Mark.{Mark}
use Rattle.archive_files.specs.Text.{Text}

-- the line goes whole behind this many bytes, and would make a larger file than there may be
abbrev pub IsTooLong : Option ℕ → ℕ → ℕ → List Text → Type 0
IsTooLong None held begun lines = ⊥
IsTooLong (Some size) held begun [] = ⊥
IsTooLong (Some size) held begun (line ∷ lines) = (begun ≡ 0) × (size < held + length line.bytes)

-- a file that was gone on with, and how many bytes it had then
pub record NewFile : Type 0 where
  -- what the one before it is named by, where that was set aside
  pub aside : Option Mark
  pub held : ℕ

-- these files, as far as they are known, and one more
abbrev pub and_file : Option (List NewFile) → Option Mark → ℕ → Option (List NewFile)
and_file files aside held =
    option_map (λ known. known ++ record { aside = aside; held = held } ∷ []) files
