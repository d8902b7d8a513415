use Rattle.node_core.proofs
use proofs.Words.{history}
use Rattle.policy_audit.proofs.Losses.{made_legal}
use proofs.Scopes.{not_running, running_here}
use proofs.Searched.{scopes_ascend}
use proofs.node.NodeCore.running.Goals as goal

pub returns-clause-found : goal.returns-clause-found
returns-clause-found c =
    rw (← c.self.view_is)
    (running_here (history c.self.inside.kept.opening c.self.inside.audit.entries)
    c.self.inside.kept.scopes.items c.args.scope.now c.self.invariant.follows.scopes c.find.result
    (rw c.deref.ensures.value at c.find.ensures))

pub returns-clause-none : goal.returns-clause-none
returns-clause-none c =
    rw (← c.self.view_is)
    (not_running (history c.self.inside.kept.opening c.self.inside.audit.entries)
    c.self.inside.kept.scopes.items c.args.scope.now c.self.invariant.follows.scopes c.find.result
    (rw c.deref.ensures.value at c.find.ensures))

pub returns-clause-legal : goal.returns-clause-legal
returns-clause-legal c =
    rw (← c.self.view_is)
    (made_legal c.self.inside.kept.opening c.self.inside.audit.entries c.self.invariant.legal)

pub find-requires : goal.find-requires
find-requires c = rw c.deref.ensures.value (scopes_ascend c.self.invariant.follows)
