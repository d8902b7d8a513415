use Rattle.admission_rules.proofs
use Rattle.std.proofs.Common.{sym, true≢false, ◌∙◌}
use proofs.NameLists.{allowed_decides}
use proofs.admission.Admission.is_allowed.Goals as goal

pub returns : goal.returns
returns c =
    rw (← c.self.view_is) (allowed_decides _ _ _ c.contains.ensures
    (λ none. true≢false (sym (c.is_empty.ensures.1 none) ∙ c.if-is_empty.false)))
