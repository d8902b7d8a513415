-- What takes the latest part of a message back.
use Rattle.std.specs.Prelude.{ℕ, List, ◌++◌, Option, Some, None, take}
use Rattle.dist_types.specs.declared.row.Row.{Row}
use Rattle.link_frames.specs.declared.parts.Undo.{Undo}
use Rattle.link_frames.specs.declared.parts.Undo.TheVariants as undos
use Rattle.link_frames.specs.Parts.{Begun}

-- the same message with the rows of one more part, of this number
abbrev pub with_part : ℕ → List Row → Begun → Begun
with_part number rows b =
    record { kind = b.kind; scope = b.scope; number = number; rows = b.rows ++ rows }

-- the same message when the part of this number was the latest, and so many rows had come
abbrev pub undone_of : ℕ → ℕ → Begun → Begun
undone_of number rows b =
    record { kind = b.kind; scope = b.scope; number = number; rows = take rows b.rows }

-- what is kept once the latest part is taken back
abbrev pub undone : Undo → Option Begun → Option Begun
undone (undos.Before kept) b = kept
undone (undos.Behind number rows) None = None
undone (undos.Behind number rows) (Some b) = Some (undone_of number rows b)
