use Rattle.node_core.proofs
use proofs.Words.{ap, nat_le, ◌∙◌}
use proofs.StepAnswers.{core_full, its_history}
use proofs.node.NodeCore.is_full.Goals as goal

pub returns : goal.returns
returns c = ap (nat_le c.self.inside.kept.opening.entries) c.len.ensures
    ∙ core_full c.self.invariant (its_history c.self.view_is)
