use Rattle.scope_core.proofs
use proofs.Words.{drop, key_cmp, option_to_list, process_keys, Rises, ◌++◌}
use proofs.node_indexes.processes_rise.Given as goal

-- where the last key and those to come rise, all do
abbrev pub invariant-loop-counted : goal.invariant-loop-counted
invariant-loop-counted l =
    Rises key_cmp (option_to_list l.last ++ process_keys (drop l.counted-index l.rows)) → Rises
    key_cmp (process_keys l.rows)
