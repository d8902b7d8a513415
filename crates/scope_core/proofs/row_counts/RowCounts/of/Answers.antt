use Rattle.scope_core.proofs
use proofs.Words.{ap, arith, insert_entry-new, rows_at, same_node_row, sym, ◌∙◌}
use proofs.RowCounts.{it, lookup_in, more_in}
use proofs.RowEntries.{next_fresh, next_in}
use proofs.row_counts.RowCounts.of.Goals as goal

pub loop-row-init : goal.loop-row-init
loop-row-init c =
    let start = c.into_iter-row-iterator.ensures.into_iter_gives.0 in (
      rw start c.requires.own,
      grind arith,
    )

pub loop-row-preserved : goal.loop-row-preserved
loop-row-preserved c =
    let node = c.args.node in
    let rows = c.args.rows.items in
    let rest = c.loop-row.row-iterator.rest.items in
    let more = c.next.new.self.rest.items in
    let es = c.loop-row.counts.entries in
    let row = c.in-Some.field-0 in
    let next = c.in-Some.ensures.steps.0 in
    let own = rw next at c.loop-row.invariant.0 in
    let all = c.loop-row.invariant.1 in
    let g = row.row.group in
    let p = row.row.pid in
    let fresh = sym (lookup_in node g p own.0 es)
    ∙ next_fresh rows rest more row (rows_at node es) all next c.requires.rises in
    let put = rw (c.of-process.ensures, c.into_group-group.ensures)
    at c.in_ok-insert.ensures.entries in
    let entries = put
    ∙ insert_entry-new same_node_row c.loop-row.counts (it node g p own.0) row.count fresh in (
      own.1,
      next_in rows rest more row (rows_at node es) all next (rows_at node c.insert.new.self.entries)
          (ap (rows_at node) entries ∙ more_in node g p own.0 row.count es),
    )
