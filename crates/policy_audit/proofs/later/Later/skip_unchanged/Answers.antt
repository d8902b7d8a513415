use Rattle.std.proofs.Common.{arith}
use Rattle.std.proofs.lemmas.List.{length-append}
use Rattle.policy_audit.specs.Pages.{entries_in}
use Rattle.policy_audit.proofs.InPages.{skipped}
use Rattle.policy_audit.proofs.later.Later.skip_unchanged.Goals as goal

pub loop-page-preserved : goal.loop-page-preserved
loop-page-preserved c =
    grind (
      arith,
      skipped c.in-Some.page.now c.in-Some.pages.now,
      length-append c.in-Some.page.now (entries_in c.in-Some.pages.now),
    )
