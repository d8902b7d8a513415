use Rattle.node_core.proofs
use proofs.Words.{sym, ◌∙◌}
use proofs.Said.{may_be_said}
use proofs.telling.tell.Goals as goal

pub prepare-requires : goal.prepare-requires
prepare-requires c =
    may_be_said c.args.numbers.now c.args.links.now.items c.args.message.now c.requires
    (sym c.is_said.ensures ∙ c.if-not-is_said.false)
