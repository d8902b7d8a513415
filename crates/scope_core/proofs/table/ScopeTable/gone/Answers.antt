use Rattle.scope_core.proofs
use proofs.Words.{sym, ◌∙◌}
use proofs.table.ScopeTable.gone.Goals.{else-is_any_in, then-is_any_in}
use proofs.table.ScopeTable.gone.Goals as goal

pub returns-after-is_any_in-clause-refused : goal.returns-after-is_any_in-clause-refused
returns-after-is_any_in-clause-refused c = elim c.if-is_any_in.branch [
  | then-is_any_in w ↦ rw (w.result-is, ← c.self.view_is)
      (sym c.is_any_in.ensures ∙ w.if-is_any_in.true)
  | else-is_any_in w ↦ rw (w.result-is, ← c.self.view_is)
      (sym c.is_any_in.ensures ∙ w.if-is_any_in.false)
]
