use Rattle.scope_core.proofs
use proofs.Words.{ap, of_node, sym, ◌∙◌}
use proofs.Outcomes.{none_then, some_then}
use proofs.NodeTables.{no_table, rows_removed, table_node, table_rows, tables_removed}
use proofs.node_lists.NodeLists.remove_node.Goals as goal

pub invariant_of-self : goal.invariant_of-self
invariant_of-self c =
    tables_removed c.args.node.now c.self.inside.lists.entries c.shift_remove.new.self.entries
    c.self.invariant c.shift_remove.ensures.entries c.shift_remove.ensures.unique

pub returns-clause-rest : goal.returns-clause-rest
returns-clause-rest c = rw (← c.self.view_is)
    (rows_removed c.args.node.now c.self.inside.lists.entries c.shift_remove.new.self.entries
    c.self.invariant c.shift_remove.ensures.entries)

pub returns-clause-gone : goal.returns-clause-gone
returns-clause-gone c = some_then c.shift_remove.result _ c.shift_remove.ensures.value (λ t found. (
  table_node c.args.node.now c.self.inside.lists.entries t c.self.invariant.each found,
  table_rows c.args.node.now c.self.inside.lists.entries t c.self.invariant found
      ∙ ap (of_node c.args.node.now) c.self.view_is,
))

pub returns-clause-none : goal.returns-clause-none
returns-clause-none c = none_then c.shift_remove.result _ c.shift_remove.ensures.value
    (λ none. sym (ap (of_node c.args.node.now) c.self.view_is)
    ∙ no_table c.args.node.now c.self.inside.lists.entries c.self.invariant none)
