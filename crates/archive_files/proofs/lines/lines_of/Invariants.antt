use Rattle.std.proofs.Common.{map, take, ◌≡◌}
use Rattle.archive_files.specs.Waiting.{text_of_entry}
use Rattle.archive_files.proofs.lines.lines_of.Given as goal

abbrev pub invariant-loop-entry : goal.invariant-loop-entry
invariant-loop-entry l =
    l.lines.items ≡ map (text_of_entry l.creation) (take l.entry-index l.entries)
