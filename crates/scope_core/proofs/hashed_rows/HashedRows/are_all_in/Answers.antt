use Rattle.scope_core.proofs
use proofs.Words.{arith}
use proofs.LoweredRows.{row_le_node}
use proofs.hashed_rows.HashedRows.are_all_in.Goals as goal

pub can_lower-requires-clause-few : goal.can_lower-requires-clause-few
can_lower-requires-clause-few c =
    let few = rw (← c.self.view_is) at c.requires.few in
    λ r. omega (arith, row_le_node, few r.pid.node)
