use Rattle.node_core.proofs
use proofs.Words.{length, refl, ◌+◌}
use Rattle.policy_audit.specs.Pages.{page_size}
use Rattle.policy_audit.proofs.Losses.{made_audited}
use proofs.HandedOut.{handed_out, not_none, spare_here}
use proofs.node.NodeCore.forget.Goals as goal

pub invariant_of-self : goal.invariant_of-self
invariant_of-self c =
    let core = c.self.invariant in
    let here = spare_here core c.self.view_is refl (c.is_spare.ensures.0 c.if-not-is_spare.false) in
    handed_out core c.forget.ensures.same.0 c.forget.ensures.same.1 here.0 c.forget.result
    c.forget.ensures.page c.forget.ensures.none here.1

pub returns-clause-page : goal.returns-clause-page
returns-clause-page c =
    rw (
      ← c.self.view_is,
      made_audited c.self.inside.kept.opening c.self.inside.audit.entries
          c.self.invariant.legal,
    )
    c.forget.ensures.page

pub returns-clause-none : goal.returns-clause-none
returns-clause-none c =
    let core = c.self.invariant in
    let audit = c.self.inside.audit in
    let here = spare_here core c.self.view_is refl (c.is_spare.ensures.0 c.if-not-is_spare.false) in
    not_none _ _ (length audit.entries) (audit.forgotten + page_size) here.0 c.forget.result
    c.forget.ensures.none
