-- The lines of a script, and the words of a line.
use Rattle.std.specs.Prelude.{ℕ, ◌==◌, Bool, true, cond, List, [], ◌∷◌, Option, Some, None}

-- a byte in front of all that the first part has
abbrev pub onto_first : ℕ → List (List ℕ) → List (List ℕ)
onto_first b [] = (b ∷ []) ∷ []
onto_first b (part ∷ parts) = (b ∷ part) ∷ parts

-- each line ends with a line feed, which the last may lack
abbrev pub lines_of : List ℕ → List (List ℕ)
lines_of [] = []
lines_of (b ∷ bytes) = cond (b == 10) ([] ∷ lines_of bytes) (onto_first b (lines_of bytes))

-- words are parted by one space, so that there is always one, which may be empty
abbrev pub words_of : List ℕ → List (List ℕ)
words_of [] = [] ∷ []
words_of (b ∷ bytes) = cond (b == 32) ([] ∷ words_of bytes) (onto_first b (words_of bytes))

-- an empty line, and one that begins with `#`
abbrev pub is_quiet : List ℕ → Bool
is_quiet [] = true
is_quiet (b ∷ bytes) = b == 35

-- the word of a list of one word
abbrev pub only_of : List (List ℕ) → Option (List ℕ)
only_of [] = None
only_of (word ∷ []) = Some word
only_of (word ∷ other ∷ words) = None
