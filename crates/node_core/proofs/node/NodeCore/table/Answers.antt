use Rattle.node_core.proofs.Words.{ap, listed, ◌∙◌}
use Rattle.node_core.proofs.node.NodeCore.table.Goals as goal

pub returns-clause-listed : goal.returns-clause-listed
returns-clause-listed c = λ g p.
    c.in_ok-running.ensures.found.1.rows g p
    ∙ ap (λ s. listed c.args.self.now.history s g p) c.in_ok-running.ensures.found.0
