use Rattle.scope_core.proofs
use proofs.Searches.{rises_with}
use proofs.Short.{rises_set, value_set, value_with}
use proofs.short_map.ShortMap.insert.Goals as goal

pub invariant_of-self : goal.invariant_of-self
invariant_of-self g c = rises_set g.met.K.Ord.total _ _ c.index_mut.result.now c.args.value
    c.index_mut.ensures.value c.self.invariant

pub invariant_of-self-in-Continue-1 : goal.invariant_of-self-in-Continue-1
invariant_of-self-in-Continue-1 g c =
    let end = rw (← c.self.view_is) at c.in-Err.ensures.end in
    let gap = rw (← c.self.view_is) at c.in-Err.ensures.gap in
    rw c.in_ok-insert-in-Err.ensures.items (rises_with g.met.K.Ord.total (λ e. e.0) _ _
    (c.args.key, c.args.value) end c.self.invariant gap)

pub returns-in-Ok-clause-ok : goal.returns-in-Ok-clause-ok
returns-in-Ok-clause-ok g c = λ k.
    let found = rw (← c.self.view_is) at c.in-Ok.ensures.found in
    let within = rw (← c.self.view_is) at c.in-Ok.ensures.bound in
    rw (← c.self.view_is) (value_set g.met.K.Ord.total _ _ c.index_mut.result.now c.args.value
    c.args.key k within c.index_mut.ensures.value c.self.invariant found)

pub returns-in_ok-insert-in-Err-clause-ok : goal.returns-in_ok-insert-in-Err-clause-ok
returns-in_ok-insert-in-Err-clause-ok g c = λ k.
    let end = rw (← c.self.view_is) at c.in-Err.ensures.end in
    let gap = rw (← c.self.view_is) at c.in-Err.ensures.gap in
    rw (← c.self.view_is, c.in_ok-insert-in-Err.ensures.items) (value_with g.met.K.Ord.total _ _
    c.args.key k c.args.value end gap)
