use Rattle.scope_core.proofs
use proofs.Words.{all_rows, ap, NodeTable, rows_by_node, sym, ◌∙◌}
use proofs.NodeLists.{all_in_list, none_in}
use proofs.NodeTables.{no_table, table_lists, table_node, table_rows, tables_same, tables_set}
use proofs.node_lists.NodeLists.are_all_in.Goals as goal

pub returns-in_default-clause-value : goal.returns-in_default-clause-value
returns-in_default-clause-value c =
    let n = c.args.node.now in
    let gone = c.args.gone.now in
    let es = c.self.inside.lists.entries in
    rw (← c.self.view_is) (c.is_empty.ensures
    ∙ sym (all_in_list n gone c.requires (all_rows (rows_by_node es)) _
    (no_table n es c.self.invariant (sym c.in_default.ensures.value)) ∙ none_in gone))

pub invariant_of-self-2 : goal.invariant_of-self-2
invariant_of-self-2 c =
    let found = sym c.in-Some.ensures.value in
    let same = c.are_all_in.ensures.same in
    tables_set _ _ _ _ _ found (c.get_mut.follows.holds c.are_all_in.new.self).0 c.self.invariant
    (ap (λ (t : NodeTable). t.node) same) (rw same (table_lists _ _ _ c.self.invariant found))

pub returns-clause-value : goal.returns-clause-value
returns-clause-value c =
    let n = c.args.node.now in
    let es = c.self.inside.lists.entries in
    let v = c.in-Some.list.now in
    rw (← c.self.view_is) (c.are_all_in.ensures.value
    ∙ sym (all_in_list n c.args.gone.now c.requires (all_rows (rows_by_node es)) v.rows
    (sym (table_rows n es v c.self.invariant (sym c.in-Some.ensures.value)))))

pub returns-clause-same : goal.returns-clause-same
returns-clause-same c = tables_same c.args.node.now c.self.inside.lists.entries _
    c.in-Some.list.now c.are_all_in.new.self (sym c.in-Some.ensures.value)
    (c.get_mut.follows.holds c.are_all_in.new.self).0 c.are_all_in.ensures.same ∙ c.self.view_is

pub are_all_in-requires : goal.are_all_in-requires
are_all_in-requires c =
    let node = table_node c.args.node.now c.self.inside.lists.entries c.in-Some.list.now
    c.self.invariant.each (sym c.in-Some.ensures.value) in
    rw node c.requires
