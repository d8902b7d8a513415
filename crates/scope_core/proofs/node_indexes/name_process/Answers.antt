use Rattle.scope_core.proofs
use proofs.Words.{ap, is_some, on_err_weaker, ◌∙◌}
use proofs.node_indexes.name_process.Goals as goal

pub returns-clause-same : goal.returns-clause-same
returns-clause-same c = on_err_weaker c.put.result
    (λ same names was k g. ap is_some (same k g) ∙ (rw c.in-Some.is at was) k g) c.put.ensures.same
