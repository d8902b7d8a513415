-- What has moved so far, and what moves in one more round.
use Rattle.std.proofs.Common.{arith, rules}
use Rattle.archive_files.proofs.Moved.{moved_then}
use Rattle.archive_files.proofs.archive.Archive.flush.Goals as goal

pub returns-in_err-write_some-clause-order : goal.returns-in_err-write_some-clause-order
returns-in_err-write_some-clause-order g c =
    let turn = c.turn_if_due.ensures in
    moved_then _ _ _ _ _ _ c.loop.self.lines _ c.loop.invariant.moved turn.bytes turn.same.0
    c.write_some.ensures.order

pub loop-preserved : goal.loop-preserved
loop-preserved g c =
    let turn = c.turn_if_due.ensures in
    let wrote = c.write_some.ensures in
    record {
      moved = moved_then _ _ _ _ _ _ c.loop.self.lines _ c.loop.invariant.moved turn.bytes
          turn.same.0 wrote.order;
      counted = grind (arith, c.loop.invariant.counted, wrote.counted, turn.same);
      lost = grind (arith, c.loop.invariant.lost, wrote.lost, turn.same);
      same = search rules;
    }
