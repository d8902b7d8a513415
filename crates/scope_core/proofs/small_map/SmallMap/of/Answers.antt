use Rattle.scope_core.proofs
use proofs.Short.{is_there}
use proofs.small_map.SmallMap.of.Goals as goal

pub returns-then-are_in_order-clause-there : goal.returns-then-are_in_order-clause-there
returns-then-are_in_order-clause-there g c = λ k.
    rw c.of.ensures (is_there g.met.K.Ord.total c.args.entries.items k)
