use Rattle.scope_core.proofs
use proofs.Words.{all_rows, ap, arith, is_of_node, max_rows, on_err_weaker, on_ok_weaker, Row}
use proofs.Words.{rows_by_node, subst, sym, tally, without_node, ◌+◌, ◌∙◌, ◌≡◌, ◌≤◌}
use proofs.NodeTables.{none_without, table_fits, table_node, tables_same, tables_set, tables_tally}
use proofs.Rising.{tally_others}
use proofs.node_lists.NodeLists.join.Goals as goal

pub returns-then-total_of-eq0-clause-ok : goal.returns-then-total_of-eq0-clause-ok
returns-then-total_of-eq0-clause-ok c =
    let n = c.args.node.now in
    let none = sym c.total_of.ensures.total ∙ c.if-total_of-eq0.true in
    on_ok_weaker c.replace.result (λ joins (test : Row → _).
    omega (arith, tally_others, joins test)) c.replace.ensures.ok

pub returns-in_default-clause-ok : goal.returns-in_default-clause-ok
returns-in_default-clause-ok c =
    let n = c.args.node.now in
    let es = c.self-2.inside.lists.entries in
    let stay = none_without n es c.self-2.invariant (sym c.in_default.ensures.value) in
    let was = ap (λ (m : _). without_node n (all_rows (rows_by_node m.entries)))
    c.get_mut.follows.holds-at-none ∙ stay ∙ c.self-2.view_is in
    on_ok_weaker c.replace-in_default.result (λ joins (test : Row → _). rw was at (joins test))
    c.replace-in_default.ensures.ok

pub join-requires-clause-list : goal.join-requires-clause-list
join-requires-clause-list c =
    let mine = table_node c.args.node.now c.self-2.inside.lists.entries c.in-Some.list.now
    c.self-2.invariant.each (sym c.in-Some.ensures.value) in
    rw c.deref.ensures.value (rw mine c.requires.list)

pub join-requires-clause-few : goal.join-requires-clause-few
join-requires-clause-few c =
    let n = c.args.node.now in
    let more = c.args.more.items in
    let few = subst (λ rows. tally (is_of_node n) rows + tally (is_of_node n) more ≤ max_rows)
    (sym c.self-2.view_is) c.requires.few in
    rw c.deref.ensures.value
    (table_fits n c.self-2.inside.lists.entries c.in-Some.list.now more c.self-2.invariant
    (sym c.in-Some.ensures.value) c.requires.list few)

pub invariant_of-self-2 : goal.invariant_of-self-2
invariant_of-self-2 c =
    tables_set _ _ _ _ _ (sym c.in-Some.ensures.value) (c.get_mut.follows.holds c.join.new.self).0
    c.self-2.invariant c.join.ensures.node c.join.ensures.list

pub returns-clause-ok : goal.returns-clause-ok
returns-clause-ok c = on_ok_weaker c.join.result (λ joins test.
    let all = tables_tally c.args.node.now c.self-2.inside.lists.entries _
    c.in-Some.list.now c.join.new.self (sym c.in-Some.ensures.value)
    (c.get_mut.follows.holds c.join.new.self).0 test in
    let more = joins test
    ∙ ap (λ rows. tally test c.in-Some.list.now.rows + tally test rows) c.deref.ensures.value in
    rw (← c.self-2.view_is) (omega (arith, all, more))) c.join.ensures.ok

pub returns-clause-same : goal.returns-clause-same
returns-clause-same c =
    on_err_weaker c.join.result (λ (same : c.join.new.self ≡ c.in-Some.list.now).
    tables_same c.args.node.now c.self-2.inside.lists.entries _
    c.in-Some.list.now c.join.new.self (sym c.in-Some.ensures.value)
    (c.get_mut.follows.holds c.join.new.self).0 same ∙ c.self-2.view_is) c.join.ensures.same
