use Rattle.scope_core.proofs
use proofs.Words.{ap, is_there, nat_lt, NodeTable, sym, tally, ◌∙◌}
use proofs.NodeTables.{members_of_node}
use proofs.node_lists.NodeLists.has_group.Goals as goal

pub returns-in-Some : goal.returns-in-Some
returns-in-Some c =
    let g = c.args.group.now in
    let n = c.args.node.now in
    let node = ap (λ (t : NodeTable). t.node) c.rows.ensures.rows ∙ c.in-Some.ensures.node in
    let rows = ap (λ (t : NodeTable). t.rows) c.rows.ensures.rows ∙ c.in-Some.ensures.rows in
    c.has_group.ensures ∙ (λ i. nat_lt 0 (tally (is_there g (node i)) (rows i)))
    ∙ ap (nat_lt 0) (sym (members_of_node n g c.args.self.now))

pub returns-in-None : goal.returns-in-None
returns-in-None c =
    let g = c.args.group.now in
    let n = c.args.node.now in
    sym (ap (nat_lt 0)
    (members_of_node n g c.args.self.now ∙ ap (tally (is_there g n)) c.in-None.ensures.none))
