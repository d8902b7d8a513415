use Rattle.std.proofs.Common.{arith}
use Rattle.std.proofs.lemmas.Grind.{common_steps}
use Rattle.policy_audit.proofs.InPages.{new_page, with_page}
use Rattle.policy_audit.proofs.audit.Audit.make_room.Goals as goal

pub invariant_of-self-then-not-has_room : goal.invariant_of-self-then-not-has_room
invariant_of-self-then-not-has_room c =
    let audit = c.self.inside in (
      grind (arith, common_steps, new_page audit.pages.items c.self.invariant.0),
      grind (arith, common_steps),
      grind (arith, common_steps),
      grind arith,
      grind arith,
    )

pub returns-in_ok-page-clause-ok : goal.returns-in_ok-page-clause-ok
returns-in_ok-page-clause-ok c =
    let audit = c.self.inside in
    rw (← c.self.view_is) (
      grind arith,
      grind (
        arith,
        common_steps,
        with_page audit.limit audit.past.items audit.pages.items c.self.invariant.0,
      ),
    )
