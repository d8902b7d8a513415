use Rattle.node_core.proofs
use proofs.Words.{rules, ◌∙◌}
use Rattle.std.specs.Ordering.{nat_cmp}
use Rattle.std.proofs.lemmas.Fn.{always_returns_same}
use proofs.Searched.{link_searched}
use proofs.links.place_of.Goals as goal

pub returns : goal.returns
returns c = c.ok.ensures.value ∙ link_searched _ _ _ c.requires c.binary_search_by.ensures.bound
    (c.binary_search_by.ensures.position (λ x. nat_cmp x.number c.args.number)
    (always_returns_same _ _ _ (λ a r g called. search rules)))
