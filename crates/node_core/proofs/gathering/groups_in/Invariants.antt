use Rattle.node_core.proofs.Words.{take, ◌≡◌}
use Rattle.policy_audit.specs.Changes.{groups_in}
use Rattle.node_core.proofs.gathering.groups_in.Given as goal

-- the groups of the changes so far
abbrev pub invariant-loop-change : goal.invariant-loop-change
invariant-loop-change l = l.groups.items ≡ groups_in l.scope (take l.change-index l.changes)
