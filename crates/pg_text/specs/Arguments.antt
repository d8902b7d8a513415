-- What the words behind a command say.
use Rattle.std.specs.Prelude.{ℕ, List, [], ◌∷◌, Option, Some, None}
use Rattle.std.specs.Option.{option_map, option_and_then}
use Rattle.dist_types.specs.declared.pid.Pid.{Pid}
use Rattle.pg_text.specs.Lines.{only_of}
use Rattle.pg_text.specs.Words.{text_of, pid_of}

-- what the first word says, and the words behind it
abbrev pub first : {A : Type 0} → (List ℕ → Option A) → List (List ℕ) → Option (A × List (List ℕ))
first read [] = None
first read (word ∷ words) = option_map (λ said. (said, words)) (read word)

-- what the only word says
abbrev pub only : {A : Type 0} → (List ℕ → Option A) → List (List ℕ) → Option A
only read words = option_and_then read (only_of words)

-- what two words say
abbrev pub both : {A B : Type 0} → (List ℕ → Option A) → (List ℕ → Option B) → List (List ℕ)
    → Option (A × B)
both read_first read_second words =
    option_and_then (λ said. option_map (λ second. (said.0, second)) (only read_second said.1))
    (first read_first words)

-- what each word says, any number of them
abbrev pub each : {A : Type 0} → (List ℕ → Option A) → List (List ℕ) → Option (List A)
each read [] = Some []
each read (word ∷ words) = option_and_then (λ said.
    option_map (λ others. said ∷ others) (each read words)) (read word)

-- a scope, a group, and any number of processes
abbrev pub named : List (List ℕ) → Option (List ℕ × List ℕ × List Pid)
named words = option_and_then (λ s.
    option_and_then (λ g. option_map (λ pids. (s.0, g.0, pids)) (each pid_of g.1))
    (first text_of s.1)) (first text_of words)
