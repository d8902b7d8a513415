use Rattle.node_threads.specs.Closing.{HaveOne}
use Rattle.node_threads.proofs.close.have_one.Given as goal

abbrev pub invariant-loop-seat : goal.invariant-loop-seat
invariant-loop-seat l = HaveOne l.seat l.passes
