use Rattle.scope_core.proofs
use proofs.Words.{is_of_node, max_rows, subst, tally, ◌≤◌}
use proofs.NodeTables.{tables_few}
use proofs.node_lists.NodeLists.few.Goals as goal

pub returns : goal.returns
returns c = λ n. subst (λ rows. tally (is_of_node n) rows ≤ max_rows) c.self.view_is
    (tables_few n c.self.inside.lists.entries c.self.invariant)
