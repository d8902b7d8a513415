-- Why a line has no answer.
use Rattle.std.specs.Prelude.{◌≡◌, Option, Some, None, IsSome, ◌⊎◌}
use Rattle.handshake_frames.specs.Spelling.{IsVersion}
use Rattle.policy_audit.specs.declared.opening.Opening.{Opening}
use Rattle.node_core.specs.declared.fault.OpenFault.{OpenFault}
use Rattle.node_core.specs.declared.fault.OpenFault.TheVariants as open_faults
use Rattle.pg_text.specs.declared.command.LineFault.{LineFault}
use Rattle.pg_text.specs.declared.command.LineFault.TheVariants as line_faults
use Rattle.world_script.specs.declared.lab.LabFault.{LabFault}
use Rattle.world_script.specs.declared.lab.LabFault.TheVariants as faults
use Rattle.world_script.specs.declared.world_line.WorldLine.{WorldLine}
use Rattle.world_script.specs.declared.world_line.WorldLine.TheVariants as line
use Rattle.world_script.specs.Following.{Playing}

-- the fault of a line that wasn't read
abbrev pub line_fault : LineFault → LabFault
line_fault line_faults.Script = faults.Script
line_fault line_faults.Memory = faults.Memory

-- the fault of a node that wasn't made
abbrev pub open_fault : OpenFault → LabFault
open_fault open_faults.BadLimit = faults.Script
open_fault open_faults.BadLinks = faults.Script
open_fault open_faults.OutOfMemory = faults.Memory

-- a node behind other lines, one with room for no entry, or one whose version of link messages is
-- neither 1 nor 2
abbrev pub IsNoNode : Playing → Opening → Type 0
IsNoNode p o = IsSome p.world ⊎ (o.entries ≡ 0) ⊎ (IsVersion o.links → ⊥)

-- a line that asks for nothing, or for such a node
abbrev pub IsMisplaced : Playing → Option WorldLine → Type 0
IsMisplaced p asked = (asked ≡ None) ⊎ ((o : Opening) × (asked ≡ Some (line.Node o)) × IsNoNode p o)
