use Rattle.scope_core.proofs
use proofs.Words.{AllWithin, is_eq, key_cmp, true, ◌≡◌}
use proofs.node_indexes.run_under.Given as goal

-- the names so far stand under the key
abbrev pub invariant-loop-len : goal.invariant-loop-len
invariant-loop-len l = AllWithin (λ n. is_eq (key_cmp n.0 l.key) ≡ true) l.names 0 l.len
