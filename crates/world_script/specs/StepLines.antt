-- The step of a world that a line asks for, and the line that a step is answered by.
use Rattle.std.specs.Prelude.{ℕ, List, ◌++◌, codes, decimal, Option, Some, None, Ok, Err}
use Rattle.std.specs.declared.result.Result.{Result}
use Rattle.policy_audit.specs.declared.entry.Verdict.TheVariants.{Accepted}
use Rattle.policy_audit.specs.History.{History}
use Rattle.pg_text.specs.Answers.{verdict_line, step_line}
use Rattle.pg_world.specs.declared.world_step.WorldStep.{WorldStep}
use Rattle.pg_world.specs.declared.world_step.WorldStep.TheVariants as step
use Rattle.pg_world.specs.declared.world_step.WorldReply.{WorldReply}
use Rattle.pg_world.specs.declared.world_step.WorldReply.TheVariants as reply
use Rattle.pg_world.specs.declared.fault.WorldFault.{WorldFault}
use Rattle.pg_world.specs.declared.fault.WorldFault.TheVariants as fault
use Rattle.world_script.specs.declared.world_line.WorldLine.{WorldLine}
use Rattle.world_script.specs.declared.world_line.WorldLine.TheVariants as line
use Rattle.world_script.specs.Names.{place_of}

-- the step that a line asks for, of this seat among these nodes, if it asks for one
abbrev pub step_in : ℕ → List History → WorldLine → Option WorldStep
step_in seat hs (line.At node event) = Some (step.Call (place_of node hs) seat event)
step_in seat hs (line.Dial from to challenge) =
    Some (step.Dial (place_of from hs) (place_of to hs) seat challenge)
step_in seat hs (line.Accept wire challenge) = Some (step.Accept wire seat challenge)
step_in seat hs (line.Hand wire side) = Some (step.Hand wire side seat)
step_in seat hs (line.Deliver wire side) = Some (step.Deliver wire side seat)
step_in seat hs (line.Cut wire side) = Some (step.Cut wire side seat)
step_in seat hs (line.Restart node) = Some (step.Restart (place_of node hs) seat)
step_in seat hs other = None

-- what a fault is called
abbrev pub fault_name : WorldFault → List ℕ
fault_name fault.WrongEvent = codes "WrongEvent"
fault_name fault.NoNode = codes "NoNode"
fault_name fault.NoWire = codes "NoWire"
fault_name fault.AcceptedAlready = codes "AcceptedAlready"
fault_name fault.NotAccepted = codes "NotAccepted"
fault_name fault.NothingUnderWay = codes "NothingUnderWay"
fault_name (fault.Core f) = codes "Core"

-- the line for a fault: the node's own answer, or the world's fault by its name
abbrev pub fault_answer : WorldFault → List ℕ
fault_answer (fault.Core f) = step_line (Err f)
fault_answer f = codes "fault " ++ fault_name f ++ codes "\n"

-- the line for what a step is answered
abbrev pub answer_line : Result WorldReply WorldFault → List ℕ
answer_line (Ok (reply.Wire w)) = codes "wire " ++ decimal w ++ codes "\n"
answer_line (Ok (reply.Handed n)) = codes "handed " ++ decimal n ++ codes "\n"
answer_line (Ok (reply.Answer r)) = verdict_line (Accepted r)
answer_line (Err f) = fault_answer f
