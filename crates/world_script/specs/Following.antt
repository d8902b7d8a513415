-- What a line makes of a world and of the seat that asks, and how it is answered.
use Rattle.std.specs.Prelude.{◌≡◌, ℕ, List, [], ◌∷◌, ◌++◌, Option, Some, None, ◌⊎◌}
use Rattle.std.specs.declared.result.Result.{Result}
use Rattle.policy_audit.specs.declared.opening.Opening.{Opening}
use Rattle.policy_audit.specs.History.{History, past}
use Rattle.pg_text.specs.Answers.{seat_line, memory_line}
use Rattle.pg_world.specs.declared.world_step.WorldStep.{WorldStep}
use Rattle.pg_world.specs.declared.world_step.WorldReply.{WorldReply}
use Rattle.pg_world.specs.declared.fault.WorldFault.{WorldFault}
use Rattle.pg_world.specs.World.{Nodes, world}
use Rattle.pg_world.specs.Steps.{IsWorldStep}
use Rattle.world_script.specs.declared.world_line.WorldLine.{WorldLine}
use Rattle.world_script.specs.declared.world_line.WorldLine.TheVariants as line
use Rattle.world_script.specs.StepLines.{step_in, answer_line}
use Rattle.world_script.specs.Settling.{Settles, settled_line}
use Rattle.world_script.specs.Showing.{shown_line}

-- ---- a world that has begun

-- one step of the world, answered by this line
pub record Makes (old : Nodes) (t : WorldStep) (new : Nodes) (said : List ℕ) : Type 0 where
  pub answer : Result WorldReply WorldFault
  pub step : IsWorldStep old t new answer
  pub line : said ≡ answer_line answer

-- the same, of the step that is asked for; there has to be one
abbrev pub MakesAsked : Nodes → Option WorldStep → Nodes → List ℕ → Type 0
MakesAsked old (Some t) new said = Makes old t new said
MakesAsked old None new said = ⊥

-- frames went and came by steps of this seat, and the line says how many came, or that memory
-- lacked
pub record IsSettled (old : Nodes) (seat : ℕ) (new : Nodes) (said : List ℕ) : Type 0 where
  pub came : ℕ
  pub settles : Settles seat old came new
  pub line : (said ≡ settled_line came) ⊎ (said ≡ memory_line)

-- a world, and the seat that asks
pub record Seated : Type 0 where
  pub world : Nodes
  pub seat : ℕ

abbrev pub seated : Nodes → ℕ → Seated
seated w k = record { world = w; seat = k }

-- what a line makes of them, and the line that is its answer
abbrev pub Follows : Seated → WorldLine → Seated → List ℕ → Type 0
Follows old (line.Seat k) new said = (new ≡ seated old.world k) × (said ≡ seat_line)
Follows old line.Settle new said = (new.seat ≡ old.seat)
    × IsSettled old.world old.seat new.world said
Follows old (line.Show s g) new said = (new ≡ old) × (said ≡ shown_line s g old.world.nodes)
Follows old asked new said = (new.seat ≡ old.seat)
    × MakesAsked old.world (step_in old.seat old.world.nodes asked) new.world said

-- ---- a script's world, from its first line on

-- the nodes until their world begins, the world from then on, and the seat that asks
pub record Playing : Type 0 where
  pub nodes : List History
  pub world : Option Nodes
  pub seat : ℕ

-- the world that has begun, or that begins with these nodes
abbrev pub begun : Playing → Nodes
begun p = elim p.world [ Some w ↦ w | None ↦ world p.nodes [] ]

-- a node is added before the world has begun
pub record AddsNode (old : Playing) (o : Opening) (new : Playing) (said : List ℕ) : Type 0 where
  pub early : old.world ≡ None
  pub added : new ≡ record old { nodes = old.nodes ++ past o [] ∷ [] }
  pub line : said ≡ seat_line

-- the world that has begun follows the line
pub record AsksWorld (old : Playing) (asked : WorldLine) (new : Playing)
    (said : List ℕ) : Type 0 where
  pub after : Nodes
  pub stands : new.world ≡ Some after
  pub follows : Follows (seated (begun old) old.seat) asked (seated after new.seat) said

-- what a line makes of the nodes, their world and the seat, and the line that is its answer
abbrev pub Plays : Playing → WorldLine → Playing → List ℕ → Type 0
Plays old (line.Node o) new said = AddsNode old o new said
Plays old asked new said = AsksWorld old asked new said
