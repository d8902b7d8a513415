use Rattle.node_core.proofs.Words.{◌≡◌}
use Rattle.node_core.proofs.running.let_go.Given as goal

-- the scopes are as they were
abbrev pub invariant-loop-running : goal.invariant-loop-running
invariant-loop-running l = l.running-items ≡ l.fn.scopes.items
