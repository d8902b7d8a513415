-- Why a line has no answer.
use Rattle.std.specs.Prelude.{◌≡◌, Option, None}
use Rattle.dist_types.specs.declared.fault.TextFault.{TextFault}
use Rattle.dist_types.specs.declared.fault.TextFault.TheVariants as text
use Rattle.pg_text.specs.declared.command.LineFault.{LineFault}
use Rattle.pg_text.specs.declared.command.LineFault.TheVariants as faults

-- nothing is said, or there was no memory for what is said
abbrev pub IsUnread : {A : Type 0} → LineFault → Option A → Type 0
IsUnread faults.Script said = said ≡ None
IsUnread faults.Memory said = Unit {0}

-- a word that is no text is a fault of the script
abbrev pub fault_of : TextFault → LineFault
fault_of text.OutOfMemory = faults.Memory
fault_of other = faults.Script
