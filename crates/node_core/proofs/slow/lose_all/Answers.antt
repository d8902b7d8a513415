use Rattle.node_core.proofs
use proofs.Words.{ap, append_assoc, take, take_more, ◌++◌, ◌∙◌}
use proofs.AllLost.{lost_more}
use proofs.slow.lose_all.Goals as goal

pub loop-end-preserved : goal.loop-end-preserved
loop-end-preserved c =
    let ends = c.args.ends.now in
    let end = c.end-item.result in
    let gone = take c.loop-end.end-index ends in
    let before = c.loop-end.invariant in
    let here = c.in_ok-drop_change.field-0.items in
    rw (take_more ends c.loop-end.end-index end c.loop-end-test.true, ← c.end-item.is) (
      before.0 ++ here,
      lost_more c.args.table.now gone end before.0 here before.1 c.in_ok-drop_change.ensures,
      c.in_ok-append.ensures.items ∙ ap (λ xs. xs ++ here) before.2
          ∙ append_assoc c.args.groups.now.items before.0 here,
    )
