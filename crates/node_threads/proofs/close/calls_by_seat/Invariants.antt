use Rattle.std.proofs.Common.{length, take, ◌≡◌}
use Rattle.std.specs.List.{All}
use Rattle.node_threads.proofs.Settling.{StandsIn}
use Rattle.node_threads.proofs.close.calls_by_seat.Given as goal

-- those of the passes so far stand in the table
abbrev pub invariant-loop-pass : goal.invariant-loop-pass
invariant-loop-pass l = (length l.calls ≡ 256) × All (StandsIn l.calls) (take l.pass-index l.passes)
