-- Which faults leave the wires as they were.
use Rattle.std.specs.Prelude.{Bool, true, false}
use Rattle.policy_audit.specs.declared.rule.Rule.TheVariants as rule
use Rattle.node_core.specs.declared.fault.CoreFault.TheVariants as core_fault
use Rattle.pg_world.specs.declared.world_step.WorldStep.{WorldStep}
use Rattle.pg_world.specs.declared.world_step.WorldStep.TheVariants as step
use Rattle.pg_world.specs.declared.fault.WorldFault.{WorldFault}
use Rattle.pg_world.specs.declared.fault.WorldFault.TheVariants as fault

-- all of them, but that a refused frame leaves its queue, unless the audit is full, and that a link
-- that isn't kept loses what is under way to it when it is cut
abbrev pub keeps_wires : WorldStep → WorldFault → Bool
keeps_wires (step.Deliver n at seat) (fault.Core (core_fault.Refused rule.EntriesFull)) = true
keeps_wires (step.Deliver n at seat) (fault.Core (core_fault.Refused r)) = false
keeps_wires (step.Cut n at seat) (fault.Core (core_fault.Refused rule.NoSuchLink)) = false
keeps_wires t f = true
