use Rattle.indexmap.proofs.SetLemmas.{AllZip-push}
use Rattle.node_threads.specs.Accepting.{Finishes}
use Rattle.node_threads.proofs.Pairs.{one_more}
use Rattle.node_threads.proofs.accepting.finish_all.Goals as goal

pub loop-one-preserved : goal.loop-one-preserved
loop-one-preserved g c =
    let at = c.loop-one in
    let push = c.push_reserved.ensures in
    let one = c.in-Some.one in
    let all = at.invariant.0 in (
      rw push.items
          (AllZip-push Finishes at.yielded at.back.items one c.finish.result all c.finish.ensures),
      one_more at.yielded one push.len at.invariant.1,
      rw push.capacity at.invariant.2,
    )
