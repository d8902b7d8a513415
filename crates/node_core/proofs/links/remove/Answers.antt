use Rattle.node_core.proofs.Words.{filter_same, nat_eq, not, rules}
use Rattle.node_core.proofs.links.remove.Goals as goal

pub returns : goal.returns
returns c = filter_same _ (λ x. not (nat_eq x.number c.args.number)) _ (λ x b f' k. search rules) _
    _ c.retain.ensures.filtered
