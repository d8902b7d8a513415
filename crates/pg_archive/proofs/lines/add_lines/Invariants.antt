use Rattle.std.proofs.Common.{take, ◌++◌, ◌≡◌}
use Rattle.pg_archive.specs.Entries.{entry_lines}
use Rattle.pg_archive.proofs.lines.add_lines.Given as goal

-- the lines so far are added
abbrev pub invariant-loop-entry : goal.invariant-loop-entry
invariant-loop-entry l = l.out.items ≡ l.fn.out.items ++ entry_lines (take l.entry-index l.entries)
