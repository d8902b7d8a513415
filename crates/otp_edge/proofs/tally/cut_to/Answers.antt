use Rattle.otp_edge.proofs
use proofs.Words.{ap, arith, sym, ◌+◌, ◌∙◌}
use Rattle.std.proofs.lemmas.List.{length_push, take_all}
use Rattle.otp_edge.specs.Tallies.{once}
use proofs.TallyLemmas.{cut_end, kept_more, kept_one, kept_same}
use Rattle.otp_edge.proofs.tally.cut_to.Goals.{else-get-counts}
use Rattle.otp_edge.proofs.tally.cut_to.Goals.{then-get-counts+in_ok-put+in_ok-try_clone+in_ok-push}
use Rattle.otp_edge.proofs.tally.cut_to.Goals as goal

pub loop-place-preserved : goal.loop-place-preserved
loop-place-preserved c =
    let row = c.index-rows-place.result in
    let kept = c.loop-place.kept.items in
    let many = c.get.ensures ∙ c.loop-place.invariant.counted row in
    elim c.if-get-counts.branch [
      | then-get-counts+in_ok-put+in_ok-try_clone+in_ok-push w ↦
          let more = rw w.in_ok-try_clone.ensures at w.in_ok-push.ensures.items in
          rw (w.kept-is, w.tally-is, more) (record {
            so = kept_more c.loop-place.place c.args.rows.now kept c.args.counts.now row
                c.loop-place.invariant.so c.loop-place-test.true c.index-rows-place.is
                (omega (arith, w.if-get-counts.true, many));
            few = omega (arith, length_push kept row, c.loop-place.invariant.few);
            counted = λ r. w.in_ok-put.ensures.ok r
                ∙ ap (λ n. n + once r row) (c.loop-place.invariant.counted r)
                ∙ sym (kept_one kept row r);
          })
      | else-get-counts w ↦ rw (w.kept-is, w.tally-is) (record {
        so = kept_same c.loop-place.place c.args.rows.now kept c.args.counts.now row
            c.loop-place.invariant.so c.loop-place-test.true c.index-rows-place.is
            (omega (arith, w.if-get-counts.false, many));
        few = omega (arith, c.loop-place.invariant.few);
        counted = c.loop-place.invariant.counted;
      })
    ]

pub returns-clause-cut : goal.returns-clause-cut
returns-clause-cut c = λ listed are. cut_end c.loop-place.place c.args.rows.now
    c.loop-place.kept.items c.args.counts.now listed c.loop-place.invariant.so
    (take_all c.loop-place.place c.args.rows.now (omega arith)) are
