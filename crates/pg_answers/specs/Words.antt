-- The words of a line.
use Rattle.std.specs.Prelude.{ℕ, eqb, List, [], Option, Some, None}
use Rattle.std.specs.List.{slice_split}
use denote.Ref.{Bor}

-- words are parted by one space, so that there is always one, which may be empty
abbrev pub words_of : List ℕ → List (List ℕ)
words_of line = slice_split (λ b. eqb b 32) line

-- none, or those of what stands behind a space
abbrev pub words_left : Option (Bor (List ℕ)) → List (List ℕ)
words_left None = []
words_left (Some rest) = words_of rest.now
