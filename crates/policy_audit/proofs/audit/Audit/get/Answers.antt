use Rattle.policy_audit.proofs
use Rattle.std.proofs.Common.{arith, length, suc, ◌+◌, ◌≡◌}
use Rattle.std.proofs.lemmas.Grind.{common_steps}
use Rattle.std.proofs.lemmas.Option.{gets}
use Rattle.policy_audit.specs.Pages.{entries_past}
use proofs.InPages.{found, past}
use proofs.Handed.{at_kept}
use Rattle.policy_audit.proofs.audit.Audit.get.Goals as goal

pub returns-in_err-page : goal.returns-in_err-page
returns-in_err-page c =
    let audit = c.self.inside in
    let place = c.in_ok-place.field-0 in
    let number : c.args.number ≡ suc (length (entries_past audit.past.items) + place) =
    grind (arith, common_steps) in
    let kept = at_kept audit.limit audit.past.items audit.pages.items c.args.number place number in
    rw (← c.self.view_is, kept)
    (grind (arith, common_steps, past audit.pages.items c.self.invariant.0 place))

pub returns : goal.returns
returns c =
    let audit = c.self.inside in
    let place = c.in_ok-place.field-0 in
    let number : c.args.number ≡ suc (length (entries_past audit.past.items) + place) =
    grind (arith, common_steps) in
    let kept = at_kept audit.limit audit.past.items audit.pages.items c.args.number place number in
    rw (← c.self.view_is, kept)
    (grind (
      arith,
      common_steps,
      gets,
      found audit.pages.items c.self.invariant.0 place c.in_ok-page.page.now,
    ))
