-- How many frames wait for links whose writers get on.
use Rattle.std.specs.Prelude.{ℕ, cond, List, Option, Some, None, length, max, fold}
use Rattle.policy_audit.specs.History.{History}
use Rattle.policy_audit.specs.Owed.{waiting, is_kept}
use Rattle.link_notes.specs.declared.writers.Writer.{Writer}

-- those for the link of this writer, where it gets on
abbrev pub frames_behind : History → Option Writer → ℕ
frames_behind h None = 0
frames_behind h (Some writer) =
    cond writer.stands_still 0 (cond (is_kept h writer.link) (length (waiting h writer.link)) 0)

-- the most for one link
abbrev pub most_behind : History → List (Option Writer) → ℕ
most_behind h writers = fold (λ most writer. max most (frames_behind h writer)) 0 writers
