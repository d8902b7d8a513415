use Rattle.scope_core.proofs
use proofs.Words.{ap, arith, cond, IfOk-weaker, is_row, NodeTable, same, sym, tally, ◌∙◌}
use proofs.NodeTables.{node_count}
use proofs.indexed_rows.IndexedRows.all_left.Goals as goal

pub returns-in-Some : goal.returns-in-Some
returns-in-Some c = IfOk-weaker c.all_left.result _ _ (λ changes told.
    let n = c.args.node.now in
    let all = c.self.inside.lists in
    let mine = λ (g : _) (p : _). ap (λ (t : NodeTable). tally (is_row g p) t.rows)
    c.rows.ensures.rows ∙ node_count n g p all c.in-Some.list.now.rows c.in-Some.ensures.rows in
    rw (← c.self.view_is)
    (told (λ g p. tally (is_row g p) all) (λ g p. cond (same p.node n) 0 (tally (is_row g p) all))
    (λ g p. grind (arith, mine g p)) (λ g p. grind arith))) c.all_left.ensures

pub returns-in-None : goal.returns-in-None
returns-in-None c =
    let n = c.args.node.now in
    let mine = λ (g : _) (p : _). node_count n g p c.self.inside.lists _
    (sym c.in-None.ensures.none) in
    rw (← c.self.view_is, c.new.ensures.items) (record {
      groups = tt;
      proper = tt;
      left = λ g p. grind (arith, mine g p);
      joined = λ g p. grind (arith, mine g p);
    })
