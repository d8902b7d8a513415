use Rattle.scope_core.proofs
use proofs.Words.{all_rows, ap, arith, nat_lt, not, rows_by_node, same_pid, sym, tally, ◌∙◌, ◌≡◌}
use proofs.Outcomes.{none_any}
use proofs.NodeTables.{no_table, process_tally, table_lists, table_node, table_rows, tables_length}
use proofs.NodeTables.{tables_members, tables_same, tables_set, tables_tally}
use proofs.node_lists.NodeLists.pop_of.Goals as goal

pub returns-in_err-list-clause-none : goal.returns-in_err-list-clause-none
returns-in_err-list-clause-none c = none_any c.from_residual.result (
    let p = c.args.pid.now in
    rw (← c.self.view_is) (process_tally p (all_rows (rows_by_node c.self.inside.lists.entries))
    ∙ ap (tally (λ r. same_pid r.pid p))
    (no_table p.node c.self.inside.lists.entries c.self.invariant
    (sym c.in_err-list.ensures.value))))

pub pop_of-requires : goal.pop_of-requires
pop_of-requires c =
    sym (table_node c.args.pid.now.node c.self.inside.lists.entries c.in_ok-list.list.now
    c.self.invariant.each (sym c.in_ok-list.ensures.value))

pub invariant_of-self-in_err-gone : goal.invariant_of-self-in_err-gone
invariant_of-self-in_err-gone c =
    let found = sym c.in_ok-list.ensures.value in
    let was = table_lists _ _ _ c.self.invariant found in
    tables_set _ _ _ _ _ found (c.get_mut.follows.holds c.pop_of.new.self).0 c.self.invariant
    c.pop_of.ensures.node (rw c.in_err-gone.ensures.same was)

pub returns-in_err-gone-clause-none : goal.returns-in_err-gone-clause-none
returns-in_err-gone-clause-none c = none_any c.from_residual-in_err-gone.result (
    let p = c.args.pid.now in
    let es = c.self.inside.lists.entries in
    let v = c.in_ok-list.list.now in
    rw (← c.self.view_is) (process_tally p (all_rows (rows_by_node es))
    ∙ ap (tally (λ r. same_pid r.pid p))
    (sym (table_rows p.node es v c.self.invariant (sym c.in_ok-list.ensures.value)))
    ∙ c.in_err-gone.ensures.none))

pub returns-in_err-gone-clause-same : goal.returns-in_err-gone-clause-same
returns-in_err-gone-clause-same c = none_any c.from_residual-in_err-gone.result (
    tables_same c.args.pid.now.node c.self.inside.lists.entries _
    c.in_ok-list.list.now c.pop_of.new.self (sym c.in_ok-list.ensures.value)
    (c.get_mut.follows.holds c.pop_of.new.self).0 c.in_err-gone.ensures.same ∙ c.self.view_is)

pub invariant_of-self-2 : goal.invariant_of-self-2
invariant_of-self-2 c = tables_set _ _ _ _ _ (sym c.in_ok-list.ensures.value)
    (c.get_mut.follows.holds c.pop_of.new.self).0
    c.self.invariant c.pop_of.ensures.node c.pop_of.ensures.list

pub returns-clause-gone : goal.returns-clause-gone
returns-clause-gone c = λ test.
    let all = tables_tally c.args.pid.now.node c.self.inside.lists.entries _
    c.in_ok-list.list.now c.pop_of.new.self (sym c.in_ok-list.ensures.value)
    (c.get_mut.follows.holds c.pop_of.new.self).0 test in
    rw (← c.self.view_is) (omega (arith, c.in_ok-gone.ensures.gone test))

pub returns-clause-fewer : goal.returns-clause-fewer
returns-clause-fewer c =
    let all = tables_length c.args.pid.now.node c.self.inside.lists.entries _
    c.in_ok-list.list.now c.pop_of.new.self (sym c.in_ok-list.ensures.value)
    (c.get_mut.follows.holds c.pop_of.new.self).0 in
    rw (← c.self.view_is) (omega (arith, all, c.in_ok-gone.ensures.fewer))

pub returns-clause-last : goal.returns-clause-last
returns-clause-last c = c.in_ok-gone.ensures.last
    ∙ ap not (tables_members c.args.pid.now.node c.self.inside.lists.entries _
    c.in_ok-list.list.now c.pop_of.new.self (sym c.in_ok-list.ensures.value)
    (c.get_mut.follows.holds c.pop_of.new.self).0 c.self.invariant c.pop_of.ensures.node
    c.in_ok-gone.gone.from.group)

pub returns-clause-done : goal.returns-clause-done
returns-clause-done c =
    let p = c.args.pid.now in
    let es = c.self.inside.lists.entries in
    let v = c.in_ok-list.list.now in
    let w = c.pop_of.new.self in
    let found = sym c.in_ok-list.ensures.value in
    let new = c.get_mut.follows.lender w in
    let was = process_tally p (all_rows (rows_by_node es))
    ∙ ap (tally (λ r. same_pid r.pid p)) (sym (table_rows p.node es v c.self.invariant found)) in
    let all = tables_tally p.node es new.entries v w found (c.get_mut.follows.holds w).0
    (λ r. same_pid r.pid p) in
    let same : tally (λ r. same_pid r.pid p) w.rows
    ≡ tally (λ r. same_pid r.pid p) (all_rows (rows_by_node new.entries)) = omega arith in
    c.in_ok-gone.ensures.done ∙ ap (λ n. not (nat_lt 0 n)) same
