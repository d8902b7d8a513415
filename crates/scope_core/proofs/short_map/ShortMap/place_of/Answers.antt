use Rattle.scope_core.proofs
use proofs.Words.{rules}
use Rattle.std.proofs.lemmas.Fn.{always_returns_same}
use proofs.Searches.{gap_in}
use proofs.Short.{found_in}
use proofs.short_map.ShortMap.place_of.Goals as goal

pub returns-clause-found : goal.returns-clause-found
returns-clause-found g c =
    let place = rw c.deref.ensures.value at
    (c.binary_search_by.ensures.position (λ e. g.K.Ord.cmp e.0 c.args.key.now)
    (always_returns_same _ _ _ (λ a r h called. search rules))) in
    rw (← c.self.view_is) (found_in (λ e. g.K.Ord.cmp e.0 c.args.key.now) _ _ place)

pub returns-clause-gap : goal.returns-clause-gap
returns-clause-gap g c =
    let place = rw c.deref.ensures.value at
    (c.binary_search_by.ensures.position (λ e. g.K.Ord.cmp e.0 c.args.key.now)
    (always_returns_same _ _ _ (λ a r h called. search rules))) in
    rw (← c.self.view_is) (gap_in g.met.K.Ord.total (λ e. e.0) _ _ _ c.self.invariant place)
