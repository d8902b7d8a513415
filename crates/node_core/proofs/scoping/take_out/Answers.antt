use Rattle.node_core.proofs.Words.{filter_same, not, rules, same}
use Rattle.node_core.proofs.scoping.take_out.Goals as goal

pub returns : goal.returns
returns c = filter_same _ (λ x. not (same x.scope c.args.scope.now)) _ (λ x b f' k. search rules) _
    _ c.retain.ensures.filtered
