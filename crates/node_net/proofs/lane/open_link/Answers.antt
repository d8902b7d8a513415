use Rattle.std.proofs.Common.{Ok, subst, ◌≡◌}
use Rattle.policy_audit.specs.declared.reply.Reply.{Reply}
use Rattle.policy_audit.specs.declared.reply.Reply.TheVariants.{Link}
use Rattle.node_threads.specs.Applied.{Called}
use Rattle.node_net.proofs.LaneLemmas.{opens_told, opens_untold}
use Rattle.node_net.proofs.lane.open_link.Goals as goal

pub returns-in-Ok-Link : goal.returns-in-Ok-Link
returns-in-Ok-Link g c =
    let found = c.in-Ok-Link.field-0-is in
    let named = c.in-Ok-Link.link-is in
    let same : c.in-Ok-Link.field-0.now ≡ Link c.in-Ok-Link.link = cc in
    opens_told c.args.pass.now c.call.follows.lender-at-none c.args.event c.requires.opening.0
    c.requires.opening.1 c.in-Ok-Link.link
    (subst (λ (r : Reply). Called c.args.pass.now c.args.event (Ok r) c.call.follows.lender-at-none)
    same (rw c.in-Ok-Link.is at c.call.follows.holds-at-none))

pub returns-2 : goal.returns-2
returns-2 g c = opens_untold c.args.pass.now c.call.follows.lender-at-none c.args.event
    c.requires.opening.0 c.requires.opening.1 _ c.call.follows.holds-at-none

pub returns : goal.returns
returns g c = opens_untold c.args.pass.now c.call.follows.lender-at-none c.args.event
    c.requires.opening.0 c.requires.opening.1 _ c.call.follows.holds-at-none
