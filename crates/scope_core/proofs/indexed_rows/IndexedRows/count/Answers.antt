use Rattle.scope_core.proofs
use proofs.Words.{ap, arith, is_row, NodeTable, same_decides, sym, tally}
use proofs.NodeTables.{node_count}
use proofs.indexed_rows.IndexedRows.count.Goals as goal

pub returns-in-Some : goal.returns-in-Some
returns-in-Some c =
    let g = c.args.group.now in
    let p = c.args.pid.now in
    let mine = node_count p.node g p c.self.inside.lists c.in-Some.list.now.rows
    c.in-Some.ensures.rows in
    let same = ap (λ (t : NodeTable). tally (is_row g p) t.rows) c.rows.ensures.rows in
    grind (arith, same_decides)

pub returns-in-None : goal.returns-in-None
returns-in-None c =
    let g = c.args.group.now in
    let p = c.args.pid.now in
    let mine = node_count p.node g p c.self.inside.lists _ (sym c.in-None.ensures.none) in
    grind (arith, same_decides)
