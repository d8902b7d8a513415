use Rattle.scope_core.proofs
use proofs.Words.{arith}
use proofs.Runs.{all_at}
use proofs.Tallies.{tally_take}
use proofs.GoneRows.{none_before}
use proofs.indexed_rows.IndexedRows.take_rows.Goals as goal

pub take-requires-clause-counted : goal.take-requires-clause-counted
take-requires-clause-counted c = grind (arith, all_at, none_before)

pub loop-counted-preserved : goal.loop-counted-preserved
loop-counted-preserved c = grind (arith, tally_take)
