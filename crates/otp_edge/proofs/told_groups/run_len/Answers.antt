use Rattle.otp_edge.proofs
use proofs.Words.{rules}
use proofs.GroupedLemmas.{in_group_more}
use Rattle.otp_edge.proofs.told_groups.run_len.Goals as goal

pub loop-place-preserved : goal.loop-place-preserved
loop-place-preserved c = in_group_more c.args.group.now c.args.rows.now c.loop-place.place
    c.index-rows-place.result c.loop-place-test.true c.index-rows-place.is c.loop-place.invariant
    (search rules)
