use Rattle.otp_edge.proofs
use proofs.Words.{ap, arith, sym, take, ◌+◌, ◌∙◌}
use Rattle.std.proofs.lemmas.List.{length-take, take_all}
use Rattle.std.proofs.lemmas.List.Sums.{count_by-le-length}
use Rattle.dist_types.specs.Listing.{same_row}
use Rattle.otp_edge.specs.Tallies.{once, times}
use proofs.TallyLemmas.{asked_more}
use Rattle.otp_edge.proofs.row_tally.RowTally.of.Goals as goal

pub put-requires : goal.put-requires
put-requires c =
    let row = c.row-item.result in
    let so_far = take c.loop-row.row-index c.args.rows.now in
    omega (
      arith,
      c.loop-row.invariant row,
      count_by-le-length (same_row row) so_far,
      length-take c.loop-row.row-index c.args.rows.now,
    )

pub loop-row-preserved : goal.loop-row-preserved
loop-row-preserved c = λ r. c.in_ok-put.ensures.ok r
    ∙ ap (λ n. n + once r c.row-item.result) (c.loop-row.invariant r)
    ∙ sym (asked_more c.args.rows.now c.loop-row.row-index c.row-item.result r
    c.loop-row-test.true c.row-item.is)

pub returns : goal.returns
returns c = λ r. c.loop-row.invariant r
    ∙ ap (times r) (take_all c.loop-row.row-index c.args.rows.now (omega arith))
