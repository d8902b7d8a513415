use Rattle.node_threads.specs.Closing.{HaveEach}
use Rattle.node_threads.proofs.close.have_each.Given as goal

abbrev pub invariant-loop-seat : goal.invariant-loop-seat
invariant-loop-seat l = HaveEach l.seat l.passes
