use Rattle.std.proofs.Common.{not, rules}
use Rattle.std.proofs.lemmas.List.Elements.{filter_from_retain}
use Rattle.pg_session.specs.declared.watch.Watch.{Watch}
use Rattle.pg_session.proofs.watch.tell_all.Goals as goal

pub returns-clause-asked : goal.returns-clause-asked
returns-clause-asked g c = (
  c.ask_all.new.watches.items,
  c.in_ok-ask_all.ensures.asked,
  filter_from_retain _ (λ (w : Watch). not w.is_over) (λ p x b q call. search rules) _ _ _
      c.retain.ensures.filtered,
)
