use Rattle.std.proofs.Common.{arith, ◌-◌}
use Rattle.std.proofs.lemmas.Grind.{common_steps}
use Rattle.policy_audit.proofs.InPages.{counted, one_more, paged_more}
use Rattle.policy_audit.proofs.page.push_last.Goals as goal

pub push-requires : goal.push-requires
push-requires c =
    grind (
      arith,
      common_steps,
      counted c.args.pages.now.items c.requires.paged (c.len-last.result - 1)
          c.index_mut.result.now,
    )

pub returns-clause-paged : goal.returns-clause-paged
returns-clause-paged c =
    paged_more c.args.pages.now.items c.requires.paged (c.len-last.result - 1) c.push.new.self
    (grind (arith, common_steps))
    (grind (
      arith,
      common_steps,
      counted c.args.pages.now.items c.requires.paged (c.len-last.result - 1)
          c.index_mut.result.now,
    ))

pub returns-clause-entries : goal.returns-clause-entries
returns-clause-entries c =
    grind (
      arith,
      common_steps,
      one_more c.args.pages.now.items (c.len-last.result - 1) c.index_mut.result.now,
    )
