use Rattle.std.proofs.Common.{ap, rules, tests, unwrap_or, ◌∙◌}
use Rattle.std.proofs.lemmas.Iterator.{YieldsList-from_map, YieldsList-from_slice}
use Rattle.std.proofs.lemmas.Iterator.Consumers.{reduce_from_yields_List}
use Rattle.std.proofs.lemmas.List.Folds.{max_of_map}
use Rattle.link_notes.specs.Behind.{frames_behind}
use Rattle.link_notes.proofs.writers.most_behind.Goals as goal

pub returns : goal.returns
returns c =
    let waiting = frames_behind c.args.core.now.history in
    c.unwrap_or.ensures
    ∙ ap (λ o. unwrap_or o 0)
    (reduce_from_yields_List _ c.map.result _ c.max.ensures.ran
    (YieldsList-from_map _ waiting (YieldsList-from_slice c.args.writers.now cc)
    c.map.ensures.closure (λ x b q k. search (rules, tests, k))))
    ∙ max_of_map waiting c.args.writers.now
