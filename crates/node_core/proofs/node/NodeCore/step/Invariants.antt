use Rattle.node_core.proofs.Words.{history}
use Rattle.node_core.proofs.node.NodeCore.step.Given as goal

abbrev pub ghost-answer : goal.ghost-answer
ghost-answer a = record { past = history a.self.now.opening a.audit.now.entries; seat = a.seat }
