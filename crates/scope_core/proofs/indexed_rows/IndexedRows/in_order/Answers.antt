use Rattle.scope_core.proofs
use proofs.Words.{ap, arith, IfOk-weaker, is_row, NodeTable, sym, tally, ◌∙◌}
use proofs.NodeTables.{node_count}
use proofs.indexed_rows.IndexedRows.in_order.Goals as goal

pub returns-in-Some-clause-counts : goal.returns-in-Some-clause-counts
returns-in-Some-clause-counts c = IfOk-weaker c.in_order.result _ _ (λ rows counts g p.
    let mine = node_count c.args.node.now g p c.self.inside.lists c.in-Some.list.now.rows
    c.in-Some.ensures.rows in
    rw (← c.self.view_is)
    (counts g p ∙ ap (λ (t : NodeTable). tally (is_row g p) t.rows) c.rows.ensures.rows ∙ mine))
    c.in_order.ensures.counts

pub returns-in-None-clause-counts : goal.returns-in-None-clause-counts
returns-in-None-clause-counts c = λ g p.
    let mine = node_count c.args.node.now g p c.self.inside.lists _ (sym c.in-None.ensures.none) in
    grind arith
