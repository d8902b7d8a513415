use Rattle.scope_core.proofs
use proofs.Words.{Joins, take}
use proofs.indexed_rows.IndexedRows.take_rows.Given as goal

-- those so far are taken
abbrev pub invariant-loop-counted : goal.invariant-loop-counted
invariant-loop-counted l = Joins (take l.counted-index l.gone) l.self l.fn.self
