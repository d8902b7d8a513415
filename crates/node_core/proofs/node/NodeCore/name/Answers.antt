use Rattle.node_core.proofs
use proofs.Words.{ap, sym}
use proofs.StepAnswers.{core_opening, its_history}
use proofs.node.NodeCore.name.Goals as goal

pub returns : goal.returns
returns c = ap (λ o. o.name) (sym (core_opening c.self.invariant (its_history c.self.view_is)))
