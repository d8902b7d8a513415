use Rattle.std.proofs.Common.{arith}
use Rattle.std.proofs.lemmas.Grind.{common_steps}
use Rattle.std.proofs.lemmas.List.{length-drop}
use Rattle.policy_audit.specs.Pages.{entries_in, entries_past}
use Rattle.policy_audit.proofs.Handed.{later_max}
use Rattle.policy_audit.proofs.audit.Audit.behind.Goals as goal

pub returns-clause-rest : goal.returns-clause-rest
returns-clause-rest c =
    let audit = c.self.inside in
    rw (← c.self.view_is)
    (grind (
      arith,
      common_steps,
      later_max (entries_in audit.pages.items) (entries_past audit.past.items) c.args.place.now,
    ))

pub returns-clause-bound : goal.returns-clause-bound
returns-clause-bound c =
    grind (arith, length-drop c.counted_from.result (entries_in c.self.inside.pages.items))
