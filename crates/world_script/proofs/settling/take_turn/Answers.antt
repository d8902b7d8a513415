use Rattle.std.proofs.Common.{arith, if◌then◌else◌}
use Rattle.world_script.proofs.Settled.{on_err, settles_on}
use Rattle.world_script.proofs.settling.take_turn.Goals as goal

pub returns-in_err-came-clause-memory : goal.returns-in_err-came-clause-memory
returns-in_err-came-clause-memory c = on_err c.from_residual-in_err-came.result
    (settles_on c.args.seat 0 0 0 c.args.world.now c.hand.new.world c.deliver.new.world
    (omega arith) c.hand.ensures c.in_err-came.ensures.memory)

pub returns-clause-ok : goal.returns-clause-ok
returns-clause-ok c = settles_on c.args.seat 0 (if c.in_ok-came.came then 1 else 0)
    (if c.in_ok-came.came then 1 else 0) c.args.world.now c.hand.new.world c.deliver.new.world
    (omega arith) c.hand.ensures c.in_ok-came.ensures.ok
