use Rattle.otp_edge.proofs.scope_edge.ScopeEdge.leaving.Goals as goal

pub returns-clause-cut : goal.returns-clause-cut
returns-clause-cut c = rw c.deref.ensures.value at c.common.ensures.cut
