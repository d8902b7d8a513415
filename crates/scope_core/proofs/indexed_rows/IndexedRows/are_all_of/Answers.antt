use Rattle.scope_core.proofs
use proofs.Words.{ap, arith, is_row, NodeTable, tally, ◌∙◌}
use proofs.NodeTables.{node_count}
use proofs.indexed_rows.IndexedRows.are_all_of.Goals as goal

pub returns-in-Some : goal.returns-in-Some
returns-in-Some c = λ yes g p here other.
    let mine = ap (λ (t : NodeTable). tally (is_row g p) t.rows) c.rows.ensures.rows
    ∙ node_count c.args.pid.now.node g p c.self.inside.lists _ c.in-Some.ensures.rows in
    let none = c.are_all_of.ensures yes g p other in
    grind arith
