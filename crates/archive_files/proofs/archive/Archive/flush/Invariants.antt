use Rattle.std.proofs.Common.{◌≡◌}
use Rattle.archive_files.specs.Waiting.{IsCounted, IsMoved, rest_of}
use Rattle.archive_files.proofs.archive.Archive.flush.Given as goal

abbrev pub invariant-loop : goal.invariant-loop
invariant-loop g l = record {
  moved : IsMoved (g.S.Write.contents l.fn.self.store) (rest_of l.fn.self.lines)
      (g.S.Write.contents l.self.store) (rest_of l.self.lines);
  counted : IsCounted l.fn.self.archived l.fn.self.lines.lines l.self.archived l.self.lines.lines;
  lost : l.self.lost ≡ l.fn.self.lost;
  same : (l.self.size ≡ l.fn.self.size) × (l.self.creation ≡ l.fn.self.creation);
}
