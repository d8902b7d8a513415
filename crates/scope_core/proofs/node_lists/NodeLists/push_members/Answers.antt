use Rattle.scope_core.proofs
use proofs.Words.{ap, arith, is_row, on_ok_weaker, same, same_decides, sym, tally, true, ◌∙◌, ◌≡◌}
use proofs.NodeLists.{row_tally}
use proofs.node_lists.NodeLists.push_members.Goals as goal

pub returns-in-Some-clause-counts : goal.returns-in-Some-clause-counts
returns-in-Some-clause-counts c = grind (arith, on_ok_weaker, row_tally, same_decides)

pub returns-in-None-clause-counts : goal.returns-in-None-clause-counts
returns-in-None-clause-counts c = λ p.
    let n = c.args.node.now in
    let g = c.args.group.now in
    let all = c.args.self.now in
    let mine = λ (h : same n p.node ≡ true). row_tally n g p (sym ((same_decides n p.node).0 h)) all
    ∙ ap (tally (is_row g p)) c.in-None.ensures.none in
    grind arith
