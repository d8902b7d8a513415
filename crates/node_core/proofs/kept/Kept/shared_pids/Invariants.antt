use Rattle.node_core.proofs.Words.{◌≡◌}
use Rattle.node_core.proofs.kept.Kept.shared_pids.Given as goal

abbrev pub invariant-loop-pid : goal.invariant-loop-pid
invariant-loop-pid l = l.pid-items ≡ l.fn.pids
