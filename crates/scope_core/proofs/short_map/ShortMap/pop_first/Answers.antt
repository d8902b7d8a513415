use Rattle.scope_core.proofs
use proofs.Words.{arith, common_steps, ◌∷◌, ◌≡◌}
use proofs.Searches.{rises_without}
use proofs.Short.{value_behind}
use proofs.short_map.ShortMap.pop_first.Goals as goal

pub invariant_of-self : goal.invariant_of-self
invariant_of-self g c =
    rw c.remove.ensures.items (rises_without (λ x y. g.K.Ord.cmp x.0 y.0) _ 0 c.self.invariant)

pub returns-clause-taken : goal.returns-clause-taken
returns-clause-taken g c = λ k.
    let es = c.self.inside.entries.items in
    let first : es ≡ c.remove.result ∷ c.remove.new.self.items = grind (arith, common_steps) in
    rw (← c.self.view_is, first) (value_behind g.met.K.Ord.total c.remove.result
    c.remove.new.self.items k (rw first at c.self.invariant))
