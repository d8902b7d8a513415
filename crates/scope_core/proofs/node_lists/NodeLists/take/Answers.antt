use Rattle.scope_core.proofs
use proofs.Words.{all_rows, ap, arith, is_row, not, refl, rows_by_node, sym, tally, ◌∙◌}
use proofs.NodeLists.{row_tally}
use proofs.NodeTables.{no_table, table_count, tables_members, tables_set, tables_tally}
use Rattle.scope_core.proofs.node_lists.NodeLists.take.Goals.{In_default}
use proofs.node_lists.NodeLists.take.Goals as goal

-- where the node has no rows, none is counted
none_counted : (c : In_default) → ⊥
none_counted c =
    let r = c.args.gone.now.row in
    let es = c.self.inside.lists.entries in
    let none = row_tally r.pid.node r.group r.pid refl (all_rows (rows_by_node es))
    ∙ ap (tally (is_row r.group r.pid))
    (no_table r.pid.node es c.self.invariant (sym c.in_default.ensures.value)) in
    let some = rw (← c.self.view_is) at c.requires.counted in
    omega arith

pub returns-in_default-clause-taken : goal.returns-in_default-clause-taken
returns-in_default-clause-taken c =
    absurd (none_counted (goal.at.returns-in_default-clause-taken c).In_default)

pub returns-in_default-clause-last : goal.returns-in_default-clause-last
returns-in_default-clause-last c =
    absurd (none_counted (goal.at.returns-in_default-clause-last c).In_default)

pub take-requires-clause-counted : goal.take-requires-clause-counted
take-requires-clause-counted c =
    let r = c.args.gone.now.row in
    let some = rw (← c.self.view_is) at c.requires.counted in
    let count =
    table_count r.pid.node c.self.inside.lists.entries c.in-Some.list.now c.self.invariant
    (sym c.in-Some.ensures.value) r.group r.pid refl in
    omega arith

pub invariant_of-self-2 : goal.invariant_of-self-2
invariant_of-self-2 c =
    tables_set _ _ _ _ _ (sym c.in-Some.ensures.value) (c.get_mut.follows.holds c.take.new.self).0
    c.self.invariant c.take.ensures.node c.take.ensures.list

pub returns-clause-taken : goal.returns-clause-taken
returns-clause-taken c = λ test.
    let all = tables_tally c.args.gone.now.row.pid.node c.self.inside.lists.entries _
    c.in-Some.list.now c.take.new.self (sym c.in-Some.ensures.value)
    (c.get_mut.follows.holds c.take.new.self).0 test in
    rw (← c.self.view_is) (omega (arith, c.take.ensures.taken test))

pub returns-clause-last : goal.returns-clause-last
returns-clause-last c = c.take.ensures.last
    ∙ ap not (tables_members c.args.gone.now.row.pid.node c.self.inside.lists.entries _
    c.in-Some.list.now c.take.new.self (sym c.in-Some.ensures.value)
    (c.get_mut.follows.holds c.take.new.self).0
    c.self.invariant c.take.ensures.node c.args.gone.now.row.group)
