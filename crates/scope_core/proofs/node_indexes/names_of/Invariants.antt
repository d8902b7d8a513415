use Rattle.scope_core.proofs
use proofs.Words.{keyed, take, ◌≡◌}
use proofs.node_indexes.names_of.Given as goal

-- those of the rows so far
abbrev pub invariant-loop-counted : goal.invariant-loop-counted
invariant-loop-counted l = l.names.items ≡ keyed (take l.counted-index l.rows)
