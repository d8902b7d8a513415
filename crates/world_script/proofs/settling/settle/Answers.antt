use Rattle.std.proofs.Common.{arith, if◌then◌else◌}
use Rattle.world_script.proofs.Settled.{counts_on, on_err, settles_on}
use Rattle.world_script.proofs.settling.settle.Goals as goal

pub returns-in_err-moved-clause-memory : goal.returns-in_err-moved-clause-memory
returns-in_err-moved-clause-memory c = on_err c.from_residual.result (
  c.loop-turn.came,
  settles_on c.args.seat c.loop-turn.came 0 c.loop-turn.came c.args.world.now c.loop-turn.world
      c.take_turn.new.world (omega arith)
      c.loop-turn.invariant.settles c.in_err-moved.ensures.memory,
)

pub loop-turn-preserved : goal.loop-turn-preserved
loop-turn-preserved c =
    let counted = counts_on c.in_ok-moved.moved.came c.loop-turn.came c.loop-turn.turn c.from.result
    c.saturating_add-came.result c.from.ensures
    c.loop-turn.invariant.few c.loop-turn-test.true c.saturating_add-came.ensures in
    record {
      settles = settles_on c.args.seat c.loop-turn.came (if c.in_ok-moved.moved.came then 1 else 0)
          c.saturating_add-came.result c.args.world.now c.loop-turn.world c.take_turn.new.world
          counted.0 c.loop-turn.invariant.settles c.in_ok-moved.ensures.ok;
      few = counted.1;
    }
