use Rattle.scope_core.proofs
use proofs.Words.{ap, arith, cond, IfOk-weaker, is_row, NodeTable, same_decides, same_pid}
use proofs.Words.{same_pid_decides, sym, tally, ◌∙◌}
use proofs.NodeTables.{node_count}
use proofs.indexed_rows.IndexedRows.left_by.Goals as goal

pub returns-in-Some : goal.returns-in-Some
returns-in-Some c = IfOk-weaker c.left_by.result _ _ (λ changes told.
    let q = c.args.pid.now in
    let all = c.self.inside.lists in
    let mine = λ (g : _) (p : _). ap (λ (t : NodeTable). tally (is_row g p) t.rows)
    c.rows.ensures.rows
    ∙ node_count q.node g p all c.in-Some.list.now.rows c.in-Some.ensures.rows in
    rw (← c.self.view_is) (told (λ g p. tally (is_row g p) all)
    (λ g p. cond (same_pid p q) 0 (tally (is_row g p) all))
    (λ g p. grind (arith, mine g p, same_pid_decides, same_decides))
    (λ g p. grind arith))) c.left_by.ensures

pub returns-in-None : goal.returns-in-None
returns-in-None c =
    let q = c.args.pid.now in
    let mine = λ (g : _) (p : _). node_count q.node g p c.self.inside.lists _
    (sym c.in-None.ensures.none) in
    rw (← c.self.view_is, c.new.ensures.items) (record {
      groups = tt;
      proper = tt;
      left = λ g p. grind (arith, mine g p, same_pid_decides, same_decides);
      joined = λ g p. grind (arith, mine g p);
    })
