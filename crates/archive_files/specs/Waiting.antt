-- The lines that wait for a file, and what a file and they make together.
use Rattle.std.specs.Prelude.{◌≡◌, ℕ, ◌+◌, ◌≤◌, ◌<◌, ◌^◌, true, false, List, [], ◌∷◌, ◌++◌, length, drop, take, min, count_by}
use Rattle.std.specs.Prelude.{Option, None, Some, ⊤}
use Rattle.std.specs.List.{flat_map}
use Rattle.policy_audit.specs.declared.entry.Entry.{Entry}
use Rattle.pg_archive.specs.declared.life.Life.{Life}
use Rattle.pg_archive.specs.Entries.{entry_line, life_line}
use Rattle.archive_files.specs.declared.line.Mark.{Mark}
use Rattle.archive_files.specs.Text.{Text}

-- the line of a life, by which a file is named as by the life's first entry
unfoldable pub text_of_life : Life → Text
text_of_life life = record {
  mark = record { creation = life.creation; number = 1 };
  is_entry = false;
  bytes = life_line life;
}

-- the line of an entry of the life of this creation
unfoldable pub text_of_entry : ℕ → Entry → Text
text_of_entry creation entry =
    record {
      mark = record { creation = creation; number = entry.number };
      is_entry = true;
      bytes = entry_line entry;
    }

-- lines in their order, and how many bytes of the first are in a file already
pub record Waiting : Type 0 where
  pub lines : List Text
  pub begun : ℕ

-- no more bytes of the first line are in the file than it has
abbrev pub IsWithin : List Text → ℕ → Type 0
IsWithin [] begun = begun ≡ 0
IsWithin (line ∷ lines) begun = begun ≤ length line.bytes

-- the first line, if there is one
abbrev pub first_of : List Text → Option Text
first_of [] = None
first_of (line ∷ lines) = Some line

-- the first line, if some of it is in the file
abbrev pub part_of : List Text → ℕ → List Text
part_of lines begun = take (min begun 1) lines

-- what of the first line is still to go to the file
abbrev pub piece_of : List Text → ℕ → List ℕ
piece_of [] begun = []
piece_of (line ∷ lines) begun = drop begun line.bytes

-- all bytes of lines, one line after another
abbrev pub bytes_of : List Text → List ℕ
bytes_of lines = flat_map (λ line. line.bytes) lines

-- the bytes that are still to go to a file
abbrev pub rest_of : Waiting → List ℕ
rest_of waiting = drop waiting.begun (bytes_of waiting.lines)

-- how many of the lines are entries'
abbrev pub entries_among : List Text → ℕ
entries_among lines = count_by (λ line. line.is_entry) lines

-- bytes have gone from what waited to the end of what is held, in their order: none is gone, and
-- none is there twice
abbrev pub IsMoved : Option (List ℕ) → List ℕ → Option (List ℕ) → List ℕ → Type 0
IsMoved None rest held' rest' = ⊤
IsMoved (Some held) rest None rest' = ⊥
IsMoved (Some held) rest (Some held') rest' =
    (gone : List ℕ) × (held' ≡ held ++ gone) × (rest ≡ gone ++ rest')

-- what a file has and what is still to go to it are as many bytes as they were
abbrev pub IsWeighed : ℕ → Waiting → ℕ → Waiting → Type 0
IsWeighed held waiting held' waiting' = held + length (rest_of waiting) < 2 ^ 64
    → held' + length (rest_of waiting') ≡ held + length (rest_of waiting)

-- what a file is named by, once this goes there: what went into it first, else the first line
abbrev pub named_by : Option Mark → List Text → Option Mark
named_by (Some mark) lines = Some mark
named_by None [] = None
named_by None (line ∷ lines) = Some line.mark

-- some of what waited has gone to the file, which is named by what goes there first
abbrev pub HasGone : Option Mark → Waiting → Option Mark → Waiting → Type 0
HasGone first waiting first' waiting' =
    (n : ℕ) × (0 < n) × (rest_of waiting' ≡ drop n (rest_of waiting))
    × (first' ≡ named_by first waiting.lines)

-- each entry whose line waited waits still, or is counted once
abbrev pub IsCounted : ℕ → List Text → ℕ → List Text → Type 0
IsCounted count lines count' lines' = count + entries_among lines < 2 ^ 64
    → count' + entries_among lines' ≡ count + entries_among lines
