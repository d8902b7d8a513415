use Rattle.scope_core.proofs
use proofs.HashedWrites.{counted_where}
use proofs.hashed_rows.HashedRows.each_once.Goals as goal

pub returns : goal.returns
returns c = rw (← c.self.view_is) (counted_where c.self.inside.counts.entries c.self.invariant.once)
