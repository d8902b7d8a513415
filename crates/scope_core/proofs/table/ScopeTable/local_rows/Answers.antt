use Rattle.scope_core.proofs
use proofs.Words.{arith, IsRowListing, local_count, Table}
use proofs.Shares.{length_local_rows, rows_listing}
use proofs.table.ScopeTable.local_rows.Goals.{After-drop-held-2}
use proofs.table.ScopeTable.local_rows.Goals as goal

abbrev the_table : (c : After-drop-held-2) → Table
the_table c = record { own = c.self.inside.own; rows = c.self.inside.rows }

own_listing : (c : After-drop-held-2)
    → IsRowListing (local_count (the_table c)) c.in_ok-rows.rows.items
own_listing c = grind (arith, rows_listing)

pub returns-clause-value : goal.returns-clause-value
returns-clause-value c = rw (← c.self.view_is) (own_listing c)

pub returns-clause-limits : goal.returns-clause-limits
returns-clause-limits c =
    let all = length_local_rows (the_table c) c.in_ok-rows.rows.items (own_listing c) in
    rw (← c.self.view_is) (omega arith)
