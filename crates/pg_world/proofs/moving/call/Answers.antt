use Rattle.pg_world.specs
use Rattle.pg_world.proofs
use proofs.Words.{asks, cond, Refuses, subst, sym, Turns, world, WorldFault, ◌∙◌}
use proofs.Turning.{refused}
use specs.Steps.{IsWorldStep}
use Rattle.pg_world.proofs.moving.call.Goals as goal
use specs.declared.world_step.WorldStep.TheVariants as step

pub returns-then-is_wrong : goal.returns-then-is_wrong
returns-then-is_wrong c = λ xs. refused _ _
    (rw (← c.is_wrong.ensures, c.if-is_wrong.true))

pub returns : goal.returns
unfolding IsWorldStep
returns c = λ xs. subst (λ b. Turns (world c.args.nodes.now xs)
    (step.Call c.args.node c.args.seat c.args.event)
    (cond b (Refuses WorldFault.WrongEvent) (asks c.args.nodes.now c.args.node c.args.seat
    c.args.event)) (world c.ask.new.nodes xs) c.ask.result)
    (sym (sym c.is_wrong.ensures ∙ c.if-is_wrong.false)) (c.ask.ensures xs)
