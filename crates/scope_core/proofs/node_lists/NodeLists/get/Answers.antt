use Rattle.scope_core.proofs
use proofs.Words.{ap, of_node, sym, ◌∙◌}
use proofs.NodeTables.{if_none, if_some, no_table, table_node, table_rows}
use proofs.node_lists.NodeLists.get.Goals as goal

pub returns-clause-node : goal.returns-clause-node
returns-clause-node c = if_some c.get.result _ c.get.ensures.value
    (λ t found. table_node c.args.node.now c.self.inside.lists.entries t c.self.invariant.each
    found)

pub returns-clause-rows : goal.returns-clause-rows
returns-clause-rows c = if_some c.get.result _ c.get.ensures.value
    (λ t found. table_rows c.args.node.now c.self.inside.lists.entries t c.self.invariant found
    ∙ ap (of_node c.args.node.now) c.self.view_is)

pub returns-clause-none : goal.returns-clause-none
returns-clause-none c = if_none c.get.result _ c.get.ensures.value
    (λ none. sym (ap (of_node c.args.node.now) c.self.view_is)
    ∙ no_table c.args.node.now c.self.inside.lists.entries c.self.invariant none)
