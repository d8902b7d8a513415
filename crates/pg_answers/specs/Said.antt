-- What a line of a node is to who asked.
use Rattle.std.specs.Prelude.{ℕ, Bool, ◌||◌, cond, List, [], ◌∷◌, ◌++◌, codes, map, drop, eqb}
use Rattle.std.specs.List.{starts_with}
use Rattle.std.specs.Str.{bytes_eq}
use Rattle.json.specs.Token.{Token, begin_object, end_object, begin_array, end_array, key, string}
use Rattle.pg_answers.specs.Words.{words_of}
use Rattle.pg_answers.specs.declared.said.Said.{Said}
use Rattle.pg_answers.specs.declared.said.Said.TheVariants as said

-- whether a line begins so
abbrev pub begins : List ℕ → List ℕ → Bool
begins line front = starts_with eqb line front

abbrev pub said_of : List ℕ → Said
said_of line =
    cond (begins line (codes "! ")) said.News
    (cond (begins line (codes "refused ")) said.Refused
    (cond (begins line (codes "fault ") || bytes_eq line (codes "memory")) said.Fault
    said.Done))

-- the status of a program that was answered so
abbrev pub status_of : Said → ℕ
status_of said.Done = 0
status_of said.Refused = 1
status_of said.Fault = 2
status_of said.News = 0

-- a line as an object: its first member has this name and the first word, the others are values
abbrev pub object_tokens : List ℕ → List (List ℕ) → List Token
object_tokens name [] = []
object_tokens name (word ∷ words) =
    begin_object ∷ key name ∷ string word ∷ key (codes "values")
    ∷ begin_array ∷ map string words ++ end_array ∷ end_object ∷ []

-- a line that comes unasked begins with `! `
abbrev pub line_tokens : List ℕ → List Token
line_tokens line = cond (begins line (codes "! "))
    (object_tokens (codes "news") (words_of (drop 2 line)))
    (object_tokens (codes "answer") (words_of line))
