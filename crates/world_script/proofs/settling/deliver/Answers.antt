use Rattle.std.proofs.Common.{refl}
use Rattle.pg_world.specs.declared.world_step.WorldStep.{WorldStep}
use Rattle.world_script.proofs.Settled.{comes, comes_not, moves}
use Rattle.world_script.proofs.settling.deliver.Goals as goal

pub returns-clause-ok : goal.returns-clause-ok
returns-clause-ok c = comes c.args.seat c.args.world.now c.step.new.self c.step.result
    (moves c.args.seat c.args.world.now c.step.new.self
    (WorldStep.Deliver c.args.wire c.args.side c.args.seat) c.step.result refl c.step.ensures.step)
    c.has_come.result c.has_come.ensures.ok

pub returns-clause-memory : goal.returns-clause-memory
returns-clause-memory c = comes_not c.args.seat c.args.world.now c.step.new.self c.step.result
    (moves c.args.seat c.args.world.now c.step.new.self
    (WorldStep.Deliver c.args.wire c.args.side c.args.seat) c.step.result refl c.step.ensures.step)
    c.has_come.result c.has_come.ensures.memory
