use Rattle.scope_core.proofs
use proofs.Words.{ap, is_row, NodeTable, row_in, sym, tally, ◌∙◌}
use proofs.HashedRows.{count_is}
use proofs.hashed_rows.HashedRows.count.Goals as goal

pub returns : goal.returns
returns c =
    let g = c.args.group.now in
    let p = c.args.pid.now in
    c.get.ensures ∙ sym (count_is (row_in g p) c.self.inside.counts.entries c.self.invariant.once)
    ∙ ap (λ (t : NodeTable). tally (is_row g p) t.rows) c.self.view_is
