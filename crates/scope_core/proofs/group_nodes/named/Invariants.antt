use Rattle.scope_core.proofs
use proofs.Words.{named_groups, node_names, ◌++◌, ◌≡◌}
use proofs.group_nodes.named.Given as goal

-- the groups so far, and those to come, are all
abbrev pub invariant-loop-group : goal.invariant-loop-group
invariant-loop-group l = l.groups.items ++ named_groups (node_names l.group-iterator)
    ≡ named_groups (node_names l.nodes.entries)
