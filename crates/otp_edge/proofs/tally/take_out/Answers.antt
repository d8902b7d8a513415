use Rattle.otp_edge.proofs
use proofs.Words.{arith}
use proofs.TallyLemmas.{out_gone, out_stays}
use Rattle.otp_edge.proofs.tally.take_out.Goals as goal

pub loop-place-preserved-then-take : goal.loop-place-preserved-then-take
loop-place-preserved-then-take c = record {
  so = out_gone c.loop-place.place c.args.rows.now.items c.loop-place.rows.items
      c.swap_remove.new.self.items c.args.gone.now c.loop-place.gone c.take.new.self
      c.index.result.now c.swap_remove.result c.loop-place.invariant.so (omega arith)
      c.index.ensures c.swap_remove.ensures.value c.swap_remove.ensures.items
      (rw c.if-take.true at c.take.ensures.taken);
  within = omega (arith, c.swap_remove.ensures.len);
}

pub loop-place-preserved : goal.loop-place-preserved
loop-place-preserved c = record {
  so = out_stays c.loop-place.place c.args.rows.now.items c.loop-place.rows.items
      c.args.gone.now c.loop-place.gone c.take.new.self c.index.result.now
      c.loop-place.invariant.so (omega arith) c.index.ensures
      (rw c.if-take.false at c.take.ensures.taken) (c.take.ensures.none c.if-take.false);
  within = omega arith;
}
