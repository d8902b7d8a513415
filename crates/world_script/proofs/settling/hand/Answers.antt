use Rattle.std.proofs.Common.{refl}
use Rattle.pg_world.specs.declared.world_step.WorldStep.{WorldStep}
use Rattle.world_script.proofs.Settled.{moves}
use Rattle.world_script.proofs.settling.hand.Goals as goal

pub returns-in-Ok-Handed : goal.returns-in-Ok-Handed
returns-in-Ok-Handed c = moves c.args.seat c.args.world.now c.step.new.self
    (WorldStep.Hand c.args.wire c.args.side c.args.seat) c.step.result refl c.step.ensures.step

pub returns-in-Err-Core-OutOfMemory : goal.returns-in-Err-Core-OutOfMemory
returns-in-Err-Core-OutOfMemory c = moves c.args.seat c.args.world.now c.step.new.self
    (WorldStep.Hand c.args.wire c.args.side c.args.seat) c.step.result refl c.step.ensures.step

pub returns : goal.returns
returns c = moves c.args.seat c.args.world.now c.step.new.self
    (WorldStep.Hand c.args.wire c.args.side c.args.seat) c.step.result refl c.step.ensures.step
