use Rattle.scope_core.proofs
use proofs.Words.{keys_of, map, take, ◌≡◌}
use proofs.node_indexes.names_in.Given as goal

-- the groups of the names so far
abbrev pub invariant-loop-name : goal.invariant-loop-name
invariant-loop-name l = keys_of l.groups.items ≡ map (λ n. n.1) (take l.name-index l.names)
