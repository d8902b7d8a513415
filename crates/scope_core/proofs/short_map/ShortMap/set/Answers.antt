use Rattle.scope_core.proofs
use proofs.Words.{arith, tied_itself}
use proofs.Short.{gap_none, rises_set, value_set}
use proofs.short_map.ShortMap.set.Goals as goal

pub invariant_of-self : goal.invariant_of-self
invariant_of-self g c = rises_set g.met.K.Ord.total _ _ c.index_mut.result.now c.args.value
    c.index_mut.ensures.value c.self.invariant

pub returns-in-Ok : goal.returns-in-Ok
returns-in-Ok g c = λ k.
    let found = rw (← c.self.view_is) at c.in-Ok.ensures.found in
    let within = rw (← c.self.view_is) at c.in-Ok.ensures.bound in
    rw (← c.self.view_is) (value_set g.met.K.Ord.total _ _ c.index_mut.result.now c.args.value
    c.args.key.now k within c.index_mut.ensures.value c.self.invariant found)

pub returns-in-Err : goal.returns-in-Err
returns-in-Err g c = λ k.
    let total = g.met.K.Ord.total in
    let key = c.args.key.now in
    let none = gap_none total key key _ _ c.in-Err.ensures.end (tied_itself total key)
    c.in-Err.ensures.gap in
    absurd (grind (arith, c.requires))
