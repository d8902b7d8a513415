use Rattle.node_core.proofs
use proofs.Words.{◌∙◌}
use Rattle.std.proofs.lemmas.Result.{on_err_weaker}
use proofs.Told.{forgotten}
use proofs.scoping.prepare_shown.Goals as goal

pub returns-clause-same : goal.returns-clause-same
returns-clause-same c = on_err_weaker c.prepare.result
    (λ forgot. forgot ∙ forgotten c.args.links.now.items c.requires.idle) c.prepare.ensures.forgot

pub returns-clause-told : goal.returns-clause-told
returns-clause-told c =
    rw (c.deref-2.ensures.value, rw c.deref.ensures.value at c.in_ok-numbers.ensures)
    at c.prepare.ensures.ok
