use Rattle.node_core.proofs.Words.{take, ◌≡◌}
use Rattle.node_core.proofs.gathering.ascending.Given as goal

-- those so far
abbrev pub invariant-loop-pid : goal.invariant-loop-pid
invariant-loop-pid l = l.listed.items ≡ take l.pid-index l.pids
