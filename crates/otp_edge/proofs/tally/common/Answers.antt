use Rattle.otp_edge.proofs
use proofs.Words.{arith}
use Rattle.std.proofs.lemmas.List.{take_all}
use proofs.TallyLemmas.{common_end, common_passed, common_taken, fewer_in}
use Rattle.otp_edge.proofs.tally.common.Goals.{else-take, then-take+in_ok-try_clone+in_ok-push}
use Rattle.otp_edge.proofs.tally.common.Goals as goal

pub returns-then-is_empty-clause-few : goal.returns-then-is_empty-clause-few
returns-then-is_empty-clause-few c = fewer_in c.loop-row.kept.items c.args.rows.now
    (λ r. omega (arith, (c.loop-row.invariant r).sums))

pub returns-then-is_empty-clause-cut : goal.returns-then-is_empty-clause-cut
returns-then-is_empty-clause-cut c =
    common_end c.loop-row.row-index c.args.rows.now c.args.others.now c.loop-row.kept.items
    c.loop-row.asked c.loop-row.invariant
    (λ r more. absurd (omega (arith, more, c.is_empty.ensures.none c.if-is_empty.true r)))

pub loop-row-preserved : goal.loop-row-preserved
loop-row-preserved c =
    let row = c.row-item.result in
    let kept = c.loop-row.kept.items in
    elim c.if-take.branch [
      | then-take+in_ok-try_clone+in_ok-push w ↦
          let out = rw w.if-take.true at c.take.ensures.taken in
          rw w.kept-is (common_taken c.loop-row.row-index c.args.rows.now c.args.others.now kept
          w.push.new.self.items c.loop-row.asked c.take.new.self row c.loop-row.invariant
          c.loop-row-test.true c.row-item.is out
          (rw w.in_ok-try_clone.ensures at w.in_ok-push.ensures.items))
      | else-take w ↦
          let out = rw w.if-take.false at c.take.ensures.taken in
          rw w.kept-is (common_passed c.loop-row.row-index c.args.rows.now c.args.others.now kept
          c.loop-row.asked c.take.new.self row c.loop-row.invariant c.loop-row-test.true
          c.row-item.is out (c.take.ensures.none w.if-take.false))
    ]

pub returns-clause-few : goal.returns-clause-few
returns-clause-few c = fewer_in c.loop-row.kept.items c.args.rows.now
    (λ r. omega (arith, (c.loop-row.invariant r).sums))

pub returns-clause-cut : goal.returns-clause-cut
returns-clause-cut c =
    common_end c.loop-row.row-index c.args.rows.now c.args.others.now c.loop-row.kept.items
    c.loop-row.asked c.loop-row.invariant
    (λ r more. take_all c.loop-row.row-index c.args.others.now (omega arith))
