use Rattle.node_threads.proofs.Written.{writes_kept}
use Rattle.node_threads.proofs.writing.write_to_end.Goals as goal

pub returns-clause-takes : goal.returns-clause-takes
returns-clause-takes g c =
    let left = c.leave-step.ensures in record {
      stop = c.write_on-stop.result;
      mid = c.write_on-stop.new.pass;
      lost = left.0;
      step = c.leave-step.result;
      writes = writes_kept c.hang_up.ensures.bytes c.write_on-stop.ensures;
      leaves = rw c.gives_up.ensures at left.1;
      end_is = c.after.ensures;
    }
