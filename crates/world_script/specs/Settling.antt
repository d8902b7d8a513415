-- Frames go and come on the wires of a world.
use Rattle.std.specs.Prelude.{◌≡◌, ℕ, Bool, true, false, if◌then◌else◌, List, [], ◌∷◌, ◌++◌, codes, decimal, Ok, Err}
use Rattle.std.specs.List.{AllByRecursion}
use Rattle.std.specs.declared.result.Result.{Result}
use Rattle.dist_types.specs.Listing.{total}
use Rattle.policy_audit.specs.declared.rule.Rule.TheVariants as rule
use Rattle.node_core.specs.declared.fault.CoreFault.TheVariants as core_fault
use Rattle.pg_text.specs.Answers.{memory_line}
use Rattle.pg_world.specs.declared.world_step.WorldStep.{WorldStep}
use Rattle.pg_world.specs.declared.world_step.WorldStep.TheVariants as step
use Rattle.pg_world.specs.declared.world_step.WorldReply.{WorldReply}
use Rattle.pg_world.specs.declared.fault.WorldFault.{WorldFault}
use Rattle.pg_world.specs.declared.fault.WorldFault.TheVariants as fault
use Rattle.pg_world.specs.World.{Nodes}
use Rattle.pg_world.specs.Steps.{IsWorldStep}

-- a step, and what it was answered
pub record Made : Type 0 where
  pub step : WorldStep
  pub answer : Result WorldReply WorldFault

-- these steps, the newest first, lead from the one world to the other
abbrev pub Lead : Nodes → List Made → Nodes → Type 0
Lead old [] new = new ≡ old
Lead old (m ∷ ms) new = (w : Nodes) × Lead old ms w × IsWorldStep w m.step new m.answer

-- this seat hands frames over, or lets one come
abbrev pub MovesFrames : ℕ → WorldStep → Type 0
MovesFrames seat (step.Hand n at s) = s ≡ seat
MovesFrames seat (step.Deliver n at s) = s ≡ seat
MovesFrames seat t = ⊥

-- whether a frame came in a delivery that was answered so: also where the node refused it, unless
-- its audit is full
abbrev pub has_come : Result WorldReply WorldFault → Bool
has_come (Ok r) = true
has_come (Err (fault.Core (core_fault.Refused rule.EntriesFull))) = false
has_come (Err (fault.Core (core_fault.Refused r))) = true
has_come (Err f) = false

-- how many frames came in a step
abbrev pub came_in : WorldStep → Result WorldReply WorldFault → ℕ
came_in (step.Deliver n at seat) a = if has_come a then 1 else 0
came_in t a = 0

-- steps of this seat that move frames lead from the one world to the other, and so many frames came
pub record Settles (seat : ℕ) (old : Nodes) (came : ℕ) (new : Nodes) : Type 0 where
  pub made : List Made
  pub lead : Lead old made new
  pub moves : AllByRecursion (λ m. MovesFrames seat m.step) made
  pub count : came ≡ total (λ m. came_in m.step m.answer) made

-- the line for how many frames came
abbrev pub settled_line : ℕ → List ℕ
settled_line came = codes "settled " ++ decimal came ++ codes "\n"

-- the same, or that a step found no memory
abbrev pub ended_line : {E : Type 0} → Result ℕ E → List ℕ
ended_line (Ok came) = settled_line came
ended_line (Err e) = memory_line
