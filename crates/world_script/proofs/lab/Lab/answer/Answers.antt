use Rattle.world_script.specs
use Rattle.std.proofs.Common.{ap, Err, IfErr, inr, Ok, Option, Result, Some, ◌∙◌, ◌≡◌}
use Rattle.policy_audit.specs.declared.opening.Opening.{Opening}
use specs.declared.lab.LabFault.{LabFault}
use specs.declared.world_line.WorldLine.{WorldLine}
use specs.Faults.{IsMisplaced, IsNoNode}
use specs.Following.{Playing}
use specs.declared.lab.LabFault.TheVariants as faults
use specs.declared.world_line.WorldLine.TheVariants as lines
use Rattle.world_script.proofs.lab.Lab.answer.Goals as goal

-- a line that asks for such a node
misplaced : (p : Playing) (asked : Option WorldLine) (o : Opening) → asked ≡ Some (lines.Node o)
    → (r : Result Unit LabFault) → IfErr r (λ f. f ≡ faults.Script → IsNoNode p o)
    → IfErr r (λ f. f ≡ faults.Script → IsMisplaced p asked)
misplaced p asked o is (Ok x) none = tt
misplaced p asked o is (Err f) none = λ q. inr (o, is, none q)

pub returns-in-Node-clause-fault : goal.returns-in-Node-clause-fault
returns-in-Node-clause-fault c =
    misplaced c.args.self.now _ c.in-Node.opening (c.in_ok-asked.ensures.ok ∙ ap Some c.in-Node.is)
    c.add.result c.add.ensures.fault
