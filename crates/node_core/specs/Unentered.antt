-- Why an event has no entry.
use Rattle.policy_audit.specs.declared.audit.AuditFault.{AuditFault}
use Rattle.policy_audit.specs.declared.audit.AuditFault.TheVariants as audit
use Rattle.policy_audit.specs.declared.rule.Rule.TheVariants as rule
use Rattle.node_core.specs.declared.fault.CoreFault.{CoreFault}
use Rattle.node_core.specs.declared.fault.CoreFault.TheVariants as faults

-- the audit is full, or has found no memory for one entry more
abbrev pub unentered : AuditFault → CoreFault
unentered audit.EntriesFull = faults.Refused rule.EntriesFull
unentered audit.OutOfMemory = faults.OutOfMemory
