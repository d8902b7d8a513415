-- How many frames calls may owe.
use Rattle.std.specs.Prelude.{ℕ, ◌+◌, ◌-◌, ◌/◌, ◌==◌, min, Bool, ◌||◌, cond, List, [], ◌∷◌, codes}
use Rattle.std.specs.List.{count_by}
use Rattle.std.specs.Str.{bytes_eq}
use Rattle.dist_types.specs.Listing.{max_rows}
use Rattle.pg_text.specs.Lines.{words_of}

-- The calls that were let through: what those may owe to a link that aren't made yet, and how many
-- frames wait for one at most when all are made, as far as the last look tells.
pub record Reckoning : Type 0 where
  pub owed : ℕ
  pub waiting : ℕ

-- a command that moves processes
abbrev pub moves : List ℕ → Bool
moves name = bytes_eq name (codes "join") || bytes_eq name (codes "leave")

-- a command that may owe each link one frame
abbrev pub announces : List ℕ → Bool
announces name = bytes_eq name (codes "start") || bytes_eq name (codes "stop")

-- how many processes a line may name: one behind each space but those before its scope and its
-- group
abbrev pub named_in : List ℕ → ℕ
named_in line = count_by (λ b. b == 32) line - 2

-- How many frames an exit may owe to a link, where the processes of its connection have so many
-- rows at most: one for each of 64 scopes, and one more for as many rows as a frame has at most.
abbrev pub frames_of_an_exit : ℕ → ℕ
frames_of_an_exit rows = 64 + rows / max_rows

-- How many a command of this name may owe to a link, where its line names so many processes.
abbrev pub frames_for : List ℕ → ℕ → ℕ → ℕ
frames_for name named rows =
    cond (bytes_eq name (codes "exit")) (frames_of_an_exit rows)
    (cond (moves name) (1 + named / max_rows) (cond (announces name) 1 0))

-- the command that words begin with
abbrev pub command_in : List (List ℕ) → List ℕ
command_in [] = []
command_in (name ∷ words) = name

-- How many the call of a line may owe to a link. Of more than 512 only so many count: then the call
-- waits until none waits for a link.
abbrev pub frames_of : List ℕ → ℕ → ℕ
frames_of line rows = min 512 (frames_for (command_in (words_of line)) (named_in line) rows)
