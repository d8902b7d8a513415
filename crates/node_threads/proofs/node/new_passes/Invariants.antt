use Rattle.node_threads.specs.Opened.{IsOpened}
use Rattle.node_threads.proofs.node.new_passes.Given as goal

-- the passes of the seats so far
abbrev pub invariant-loop-seat : goal.invariant-loop-seat
invariant-loop-seat l = IsOpened l.seat l.passes.items
