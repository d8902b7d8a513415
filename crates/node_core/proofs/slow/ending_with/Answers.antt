use Rattle.node_core.proofs
use proofs.Words.{sym, ◌∙◌}
use proofs.AllLost.{none_ends}
use proofs.slow.ending_with.Goals as goal

pub returns-then-not-is_any_overfull : goal.returns-then-not-is_any_overfull
returns-then-not-is_any_overfull c = none_ends c.args.links.now
    (sym c.is_any_overfull.ensures ∙ c.if-not-is_any_overfull.true)
