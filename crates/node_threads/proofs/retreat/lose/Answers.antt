use Rattle.node_threads.specs
use specs.Applied.{answer_now}
use Rattle.node_threads.proofs.Answered.{gives_up}
use specs.declared.retreat.RetreatStep.TheVariants as steps
use Rattle.node_threads.proofs.retreat.lose.Goals as goal

pub returns-in-Stuck : goal.returns-in-Stuck
returns-in-Stuck g c =
    let called = rw c.loop-step.invariant at c.call.follows.holds-at-none in
    gives_up c.args.work.now.link c.args.pass.now c.call.follows.lender-at-none c.loop-step.retreat
    (answer_now c.call.result) steps.Stuck called c.in-Stuck.ensures.step (λ q. cc)

pub returns-in_default : goal.returns-in_default
returns-in_default g c =
    let called = rw c.loop-step.invariant at c.call.follows.holds-at-none in
    gives_up c.args.work.now.link c.args.pass.now c.call.follows.lender-at-none
    c.loop-step.retreat (answer_now c.call.result) c.next-step.result called
    c.next-step.ensures.step c.in_default.not-Again
