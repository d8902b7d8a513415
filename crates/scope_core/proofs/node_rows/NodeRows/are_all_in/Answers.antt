use Rattle.scope_core.proofs
use proofs.Words.{ap, arith, is_row, length, NodeTable, tally, ◌∙◌, ◌≡◌}
use proofs.LoweredRows.{one_in}
use proofs.node_rows.NodeRows.are_all_in.Goals as goal

pub returns-in-len1-clause-value : goal.returns-in-len1-clause-value
returns-in-len1-clause-value c =
    let row = c.row-item.result in
    let test = is_row row.group row.pid in
    let count = c.count.ensures ∙ ap (λ (t : NodeTable). tally test t.rows) c.self.view_is in
    let gone = c.args.gone.now in
    let one = c.in-len1 in
    let alone : length gone ≡ 1 = omega arith in
    one_in row gone c.args.self.now.rows c.count.result alone c.row-item.is count
