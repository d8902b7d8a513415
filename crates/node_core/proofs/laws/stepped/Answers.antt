use Rattle.node_core.proofs.StepAnswers.{stepped_legal, stepped_opening}
use Rattle.node_core.proofs.laws.stepped.Goals as goal

pub returns-clause-legal : goal.returns-clause-legal
returns-clause-legal c = stepped_legal

pub returns-clause-opening : goal.returns-clause-opening
returns-clause-opening c = stepped_opening
