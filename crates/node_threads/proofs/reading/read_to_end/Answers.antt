use Rattle.std.proofs.Common.{sym, ◌∙◌}
use Rattle.node_threads.proofs.Answered.{stop_closed}
use Rattle.node_threads.proofs.reading.read_to_end.Goals as goal

pub returns : goal.returns
returns g c =
    let read = c.read_on-stop.ensures.bytes in
    let left = c.leave-step.ensures in record {
      bytes = (
        read.0,
        read.1,
        record {
          stop = c.read_on-stop.result;
          mid = c.read_on-stop.new.pass;
          lost = left.0;
          step = c.leave-step.result;
          reads = read.2;
          leaves = rw c.gives_up.ensures at left.1;
          end_is = c.after.ensures;
        },
      );
      closed = λ q. c.read_on-stop.ensures.closed
          (stop_closed c.leave-step.result c.read_on-stop.result (sym c.after.ensures ∙ q));
    }
