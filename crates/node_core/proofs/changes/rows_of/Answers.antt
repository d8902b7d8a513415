use Rattle.node_core.proofs
use proofs.Words.{ap, map, row, row_cmp, rows_total, same_row, take_all, ◌∙◌}
use Rattle.dist_types.proofs.Sorts.{sorted_listing}
use proofs.Said.{rows_length, rows_listing}
use proofs.changes.rows_of.Goals as goal

pub returns : goal.returns
returns c =
    let sorted = sorted_listing row_cmp same_row rows_total c.loop-pid.rows.items
    c.sort_unstable.new.self.items c.sort_unstable.ensures.permutation
    c.sort_unstable.ensures.sorted in
    let all = c.loop-pid.invariant ∙ ap (map (row c.args.group.now))
    (take_all _ _ c.loop-pid-test.false) in
    record {
      rows = rows_listing c.args.group.now c.args.pids.now c.loop-pid.rows.items
          c.sort_unstable.new.self.items all sorted;
      length = rows_length c.args.group.now c.args.pids.now c.loop-pid.rows.items
          c.sort_unstable.new.self.items all sorted;
    }
