use Rattle.node_core.proofs
use proofs.Words.{rules, text_cmp, ◌∙◌}
use Rattle.std.proofs.lemmas.Fn.{always_returns_same}
use proofs.Searched.{scope_searched}
use proofs.running.place_of.Goals as goal

pub returns : goal.returns
returns c = c.ok.ensures.value ∙ scope_searched _ _ _ c.requires c.binary_search_by.ensures.bound
    (c.binary_search_by.ensures.position (λ x. text_cmp x.scope c.args.scope.now)
    (always_returns_same _ _ _ (λ a r g called. search rules)))
