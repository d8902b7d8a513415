-- What was written is the front of what waits.
use Rattle.std.proofs.Common.{arith, inr, length, take, ◌<◌, ◌≤◌}
use Rattle.archive_files.proofs.Moved.{front_of, moved_front}
use Rattle.archive_files.specs.Waiting.{piece_of, rest_of}
use Rattle.archive_files.proofs.archive.Archive.write_some.Goals as goal

pub returns-clause-order : goal.returns-clause-order
returns-clause-order g c =
    let lines = c.args.self.now.lines in
    let piece = piece_of lines.lines lines.begun in
    let within : c.in-Ok.count ≤ length piece = rw (← c.piece.ensures) c.in-Ok.ensures.bound in
    rw (c.note.ensures.same.0, c.note.ensures.rest)
    (moved_front _ _ (rest_of lines) (take c.in-Ok.count piece) c.in-Ok.count
    (front_of lines.lines lines.begun c.in-Ok.count within)
    (rw (← c.piece.ensures) c.in-Ok.ensures.bytes))

pub returns-clause-first : goal.returns-clause-first
returns-clause-first g c =
    let some : 0 < c.in-Ok.count = omega arith in
    inr (c.in-Ok.count, some, c.note.ensures.rest, c.note.ensures.first)
