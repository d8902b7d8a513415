use Rattle.scope_core.proofs
use proofs.Words.{times_named}
use proofs.Outcomes.{on_err}
use proofs.Indexed.{put_some}
use proofs.indexing.put_all.Goals as goal

pub returns-in_err-put-clause-some : goal.returns-in_err-put-clause-some
returns-in_err-put-clause-some c = on_err c.from_residual.result
    (put_some c.args.changes.now c.loop-change.change-index c.args.node.now
    (times_named c.args.index.now) (times_named c.loop-change.index)
    (times_named c.put.new.self) c.loop-change.invariant c.in_err-put.ensures.same)
