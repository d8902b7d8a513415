use Rattle.scope_core.proofs
use proofs.Words.{sym, Table, ◌∙◌}
use proofs.GoneRows.{all_taken, all_totals, listed_within}
use proofs.indexed_rows.IndexedRows.take_listed.Goals as goal

pub returns-then-total_of-rows-clause-rows : goal.returns-then-total_of-rows-clause-rows
returns-then-total_of-rows-clause-rows c =
    let t : Table = record { own = c.args.node.now; rows = c.args.self.now } in
    rw c.remove_node.ensures.rest
    (all_taken c.args.node.now c.args.rows.now c.requires.own t c.requires.there
    (sym c.if-total_of-rows.true ∙ c.total_of.ensures.total))

pub returns-then-total_of-rows-clause-totals : goal.returns-then-total_of-rows-clause-totals
returns-then-total_of-rows-clause-totals c =
    let t : Table = record { own = c.args.node.now; rows = c.args.self.now } in
    rw c.remove_node.ensures.rest
    (all_totals c.args.node.now c.args.rows.now c.requires.own t c.requires.there
    (sym c.if-total_of-rows.true ∙ c.total_of.ensures.total))

pub take_rows-requires-clause-counted : goal.take_rows-requires-clause-counted
take_rows-requires-clause-counted c =
    let t : Table = record { own = c.args.node.now; rows = c.args.self.now } in
    listed_within c.args.node.now c.args.rows.now c.requires.own t c.requires.there
    c.args.counted.now c.requires.counted
