use Rattle.scope_core.proofs
use proofs.Words.{ap, sym, total, ◌∙◌}
use proofs.Shares.{node_rows}
use proofs.node_lists.NodeLists.total_of.Goals as goal

pub returns-in-Some-clause-total : goal.returns-in-Some-clause-total
returns-in-Some-clause-total c =
    c.total.ensures.total ∙ ap (total (λ x. x.count)) c.in-Some.ensures.rows
    ∙ node_rows c.args.node.now c.args.self.now

pub returns-in-None-clause-total : goal.returns-in-None-clause-total
returns-in-None-clause-total c = sym (sym (node_rows c.args.node.now c.args.self.now)
    ∙ ap (total (λ x. x.count)) c.in-None.ensures.none)
