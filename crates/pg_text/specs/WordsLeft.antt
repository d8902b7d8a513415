-- The words that are left of a line.
use Rattle.std.specs.Prelude.{ℕ, List, [], Option, Some, None}
use denote.Ref.{Bor}
use Rattle.pg_text.specs.Lines.{words_of}

-- none, or those of what stands behind a space
abbrev pub words_left : Option (Bor (List ℕ)) → List (List ℕ)
words_left None = []
words_left (Some rest) = words_of rest.now
