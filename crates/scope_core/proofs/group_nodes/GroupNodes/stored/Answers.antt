use Rattle.scope_core.proofs
use proofs.Words.{lookup_key_same, same_decides, sym}
use proofs.GroupNodes.{none_times}
use proofs.group_nodes.GroupNodes.stored.Goals as goal

pub returns-clause-equal : goal.returns-clause-equal
returns-clause-equal c = sym (lookup_key_same same_decides c.args.group.now
    c.self.inside.nodes.entries c.in_ok-stored.stored.now (sym c.in_ok-stored.ensures.key))

pub returns-in_err-stored-clause-none : goal.returns-in_err-stored-clause-none
returns-in_err-stored-clause-none c = rw c.from_residual.ensures (λ n. rw (← c.self.view_is)
    (none_times c.self.inside.nodes.entries c.args.group.now (sym c.in_err-stored.ensures.value) n))
