use Rattle.scope_core.proofs
use proofs.Words.{keyed_maps, take, ◌≡◌}
use proofs.node_indexes.maps_of.Given as goal

-- those of the rows so far
abbrev pub invariant-loop-counted : goal.invariant-loop-counted
invariant-loop-counted l = l.maps.items ≡ keyed_maps (take l.counted-index l.rows)
