use Rattle.scope_core.proofs
use proofs.Searches.{rises_without}
use proofs.Short.{value_absent, value_without}
use proofs.short_map.ShortMap.remove.Goals as goal

pub invariant_of-self : goal.invariant_of-self
invariant_of-self g c = rw c.remove.ensures.items
    (rises_without (λ x y. g.K.Ord.cmp x.0 y.0) _ c.in-Ok.at c.self.invariant)

pub returns-in-Ok : goal.returns-in-Ok
returns-in-Ok g c = λ k.
    let found = rw (← c.self.view_is) at c.in-Ok.ensures.found in
    let within = rw (← c.self.view_is) at c.in-Ok.ensures.bound in
    rw (← c.self.view_is, c.remove.ensures.items) (value_without g.met.K.Ord.total _ _
    c.args.key.now k within c.self.invariant found)

pub returns-in-Err : goal.returns-in-Err
returns-in-Err g c = λ k. value_absent g.met.K.Ord.total _ _ c.args.key.now k
    c.in-Err.ensures.end c.in-Err.ensures.gap
