use Rattle.node_core.proofs.Words.{filter_same, nat_eq, not, refl, rules}
use Rattle.node_core.proofs.changes.cut_off.Goals as goal

pub returns : goal.returns
returns c = record {
  scope = refl;
  rows = c.drop_peer.ensures;
  heard = filter_same _ (λ k. not (nat_eq k c.args.number)) _ (λ x b f' k. search rules) _ _
      c.retain.ensures.filtered;
  told = filter_same _ (λ k. not (nat_eq k c.args.number)) _ (λ x b f' k. search rules) _ _
      c.retain-2.ensures.filtered;
}
