use Rattle.scope_core.proofs
use proofs.Short.{keys_sorted}
use proofs.short_map.ShortMap.entries.Goals as goal

pub returns-clause-ordered : goal.returns-clause-ordered
returns-clause-ordered g c = rw (← c.self.view_is) (keys_sorted g.K.Ord.cmp _ c.self.invariant)
