use Rattle.scope_core.proofs
use proofs.Words.{insert_entry, NodeTable, refl, same, ◌∙◌, ◌≡◌}
use proofs.NodeTables.{rows_put, tables_put}
use proofs.node_lists.NodeLists.replace.Goals.{Joined-branch-5}
use proofs.node_lists.NodeLists.replace.Goals as goal

abbrev table_of : (c : Joined-branch-5) → NodeTable
table_of c = record { node = c.args.node.now; rows = c.args.rows.items }

put_is : (c : Joined-branch-5)
    → c.insert.new.self.entries ≡ insert_entry same c.self.inside.lists.entries c.args.node.now
    (table_of c)
put_is c =
    let list = c.in_ok-list.ensures
    ∙ (λ i. record { node = c.in_ok-try_clone.ensures i; rows = c.args.rows.items }) in
    c.in_ok-insert.ensures.entries
    ∙ (λ i. insert_entry same c.self.inside.lists.entries (c.in_ok-name.ensures i) (list i))

pub invariant_of-self-2 : goal.invariant_of-self-2
invariant_of-self-2 c =
    tables_put c.args.node.now c.self.inside.lists.entries c.insert.new.self.entries (table_of c)
    c.self.invariant refl c.requires.list (put_is c) c.in_ok-insert.ensures.unique

pub returns-clause-ok : goal.returns-clause-ok
returns-clause-ok c = rw (← c.self.view_is)
    (rows_put c.args.node.now c.self.inside.lists.entries c.insert.new.self.entries (table_of c)
    c.self.invariant (put_is c))
