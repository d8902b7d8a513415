-- A line of an archive, as a value.
use Rattle.std.specs.Prelude.{ℕ, Bool, List}
use Rattle.archive_files.specs.declared.line.Mark.{Mark}

pub record Text : Type 0 where
  pub mark : Mark
  -- whether it is an entry's, and not that of a life
  pub is_entry : Bool
  -- with the line feed
  pub bytes : List ℕ
