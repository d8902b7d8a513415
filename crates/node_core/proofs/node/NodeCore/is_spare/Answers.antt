use Rattle.node_core.proofs
use proofs.Words.{arith, length, sym, ◌+◌, ◌<◌, ◌∙◌}
use Rattle.std.proofs.lemmas.Bool.Decides.{nat_tests}
use Rattle.policy_audit.specs.Pages.{page_size}
use proofs.HandedOut.{spare_kept, spare_now}
use proofs.node.NodeCore.is_spare.Goals as goal

pub returns-then-number-len : goal.returns-then-number-len
returns-then-number-len c =
    let now = c.self.view_is in
    let first = c.forgotten.ensures in
    let more : c.forgotten.result + page_size < length c.self.inside.audit.entries =
    grind (arith, nat_tests, c.len.ensures) in (
      λ yes. spare_now c.self.invariant now first more (sym c.are_behind.ensures ∙ yes),
      λ spare. c.are_behind.ensures ∙ (spare_kept c.self.invariant now first spare).1,
    )

pub returns-else-number-len : goal.returns-else-number-len
returns-else-number-len c = (
  λ yes. absurd (grind (arith, nat_tests)),
  λ spare.
      let here = (spare_kept c.self.invariant c.self.view_is c.forgotten.ensures spare).0 in
      absurd (grind (arith, nat_tests, here, c.len.ensures)),
)
