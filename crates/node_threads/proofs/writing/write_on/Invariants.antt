use Rattle.node_threads.proofs.Written.{HasWritten}
use Rattle.node_threads.proofs.writing.write_on.Given as goal

-- all that was taken so far was written
abbrev pub invariant-loop : goal.invariant-loop
invariant-loop g l = HasWritten l.work.link l.fn.pass (g.W.Write.contents l.fn.output)
    (g.W.Write.contents l.output) l.pass
