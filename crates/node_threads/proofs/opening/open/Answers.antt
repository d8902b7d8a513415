use Rattle.std.proofs.Common.{Ok, subst, ◌≡◌}
use Rattle.policy_audit.specs.declared.reply.Reply.{Reply}
use Rattle.policy_audit.specs.declared.reply.Reply.TheVariants.{Link}
use Rattle.node_threads.specs.Applied.{Called}
use Rattle.node_threads.proofs.Openings.{asked_link, asked_unopened}
use Rattle.policy_audit.specs.declared.event.Event.TheVariants as events
use Rattle.node_threads.proofs.opening.open.Goals as goal

pub returns-in-Ok-Link : goal.returns-in-Ok-Link
returns-in-Ok-Link g c =
    let same : c.in-Ok-Link.field-0.now ≡ Link c.in-Ok-Link.link = cc in
    asked_link c.args.reader.now c.call.follows.lender-at-none c.args.challenge c.in-Ok-Link.link
    (subst (λ (r : Reply). Called c.args.reader.now (events.Opened c.args.challenge) (Ok r)
    c.call.follows.lender-at-none) same (rw c.in-Ok-Link.is at c.call.follows.holds-at-none))

pub returns-in-Err : goal.returns-in-Err
returns-in-Err g c =
    asked_unopened c.args.reader.now c.call.follows.lender-at-none c.args.challenge c.in-Err.fault
    c.unopened.result c.unopened.ensures (rw c.in-Err.is at c.call.follows.holds-at-none)
