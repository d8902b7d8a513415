use Rattle.scope_core.proofs
use proofs.Words.{ap, arith, ◌+◌, ◌∙◌}
use proofs.LoweredRows.{lowered_more}
use proofs.lowering.lower_all.Goals as goal

pub loop-row-preserved : goal.loop-row-preserved
loop-row-preserved c =
    let gone = c.args.gone.now in
    let k = c.loop-row.lowered in
    let row = c.row-item.result in
    let so_far = c.loop-row.invariant in
    let here = rw (← so_far.0) at c.row-item.is in
    let one = c.lower.ensures.lowered c.if-not-lower.false in
    let there = c.lower.ensures.there c.if-not-lower.false in (
      ap (λ i. i + 1) so_far.0,
      c.lower.ensures.node ∙ so_far.1,
      lowered_more gone k row (omega arith) here
          c.lower.new.self.entries c.loop-row.counts.entries c.args.counts.now.entries
          so_far.2 one there,
    )
