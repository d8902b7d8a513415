use Rattle.group_monitors.proofs.Words.{filter-RetainsPairs, rules}
use Rattle.group_monitors.proofs.monitors.Monitors.drop_scope.Goals as goal

pub returns-clause-dropped : goal.returns-clause-dropped
returns-clause-dropped c = rw (← c.self.view_is)
    (filter-RetainsPairs _ _ _ (λ k v b w g call. search rules) _ _ c.retain.ensures.filtered)
