use Rattle.scope_core.proofs
use proofs.Words.{arith}
use proofs.NodeLists.{own_total}
use proofs.node_rows.NodeRows.of.Goals as goal

pub total_of-total-requires : goal.total_of-total-requires
total_of-total-requires c =
    let node = c.args.node in
    let rows = c.args.counted.items in
    let list = c.requires.list in
    rw c.deref.ensures.value (omega (arith, own_total, list.few node))
