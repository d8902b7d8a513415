use Rattle.node_core.proofs
use proofs.Words.{ap, occurrences, same, ◌∙◌}
use proofs.ReadLinks.{names_are, names_once}
use proofs.node.NodeCore.peers.Goals as goal

pub returns-clause-names : goal.returns-clause-names
returns-clause-names c =
    rw (← c.self.view_is) (c.of.ensures ∙ (rw c.deref.ensures.value at c.in_ok-up_peers.ensures)
    ∙ names_are c.self.invariant.follows)

pub returns-clause-once : goal.returns-clause-once
returns-clause-once c = λ n. ap (λ names. occurrences same n names) (returns-clause-names c)
    ∙ rw (← c.self.view_is) (names_once c.self.invariant.follows n)
