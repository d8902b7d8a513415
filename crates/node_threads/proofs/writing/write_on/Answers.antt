use Rattle.node_threads.proofs.Written.{writes_stuck, writes_to, written_lighter, written_more}
use Rattle.node_threads.proofs.writing.write_on.Goals as goal

pub returns-in-Err : goal.returns-in-Err
returns-in-Err g c = writes_to c.loop.invariant c.in-Err.ensures

pub loop-preserved : goal.loop-preserved
loop-preserved g c =
    written_lighter (written_more c.loop.invariant c.in_default.ensures) c.lighten.ensures

pub returns-then-is_stuck_at : goal.returns-then-is_stuck_at
returns-then-is_stuck_at g c = writes_stuck c.loop.invariant
