use Rattle.policy_audit.proofs
use Rattle.std.proofs.Common.{arith, length, ◌≤◌}
use Rattle.std.proofs.lemmas.Grind.{common_steps}
use Rattle.policy_audit.specs.Pages.{entries_past}
use proofs.InPages.{at_most}
use proofs.Handed.{oldest}
use Rattle.policy_audit.proofs.audit.Audit.forget.Goals as goal

pub returns-clause-page : goal.returns-clause-page
returns-clause-page c =
    let audit = c.self.inside in
    let paged = c.self.invariant.0 in
    let several : 2 ≤ length audit.pages.items =
    grind (arith, common_steps, at_most audit.pages.items paged) in
    rw (← c.self.view_is) (
      oldest (entries_past audit.past.items) audit.pages.items paged several c.remove-page.result
          c.remove-page.ensures.value,
      grind (arith, common_steps),
    )
