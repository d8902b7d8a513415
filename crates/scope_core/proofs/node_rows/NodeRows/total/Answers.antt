use Rattle.scope_core.proofs
use proofs.Words.{arith}
use proofs.NodeLists.{own_total}
use proofs.node_rows.NodeRows.total.Goals as goal

pub returns-clause-few : goal.returns-clause-few
returns-clause-few c =
    let t = c.self.inside.rows in
    omega (arith, own_total, c.self.invariant.list.few t.node)
