-- Why a link has to end.
use Rattle.std.specs.Prelude.{⊤, ◌<◌, ℕ, List, length}
use Rattle.otp_edge.specs.declared.fault.HearFault.{HearFault}
use Rattle.otp_edge.specs.declared.fault.HearFault.TheVariants as heard
use Rattle.otp_link.specs.declared.fault.LinkFault.{LinkFault}
use Rattle.otp_link.specs.declared.fault.LinkFault.TheVariants as faults

-- by what its edge doesn't hear
abbrev pub fault_of : HearFault → LinkFault
fault_of heard.NoMessage = faults.NoMessage
fault_of heard.TooManyRows = faults.TooManyRows
fault_of heard.OutOfMemory = faults.OutOfMemory

-- by a frame that has more bytes than its length can say
abbrev pub IsUnput : List ℕ → LinkFault → Type 0
IsUnput frame faults.NotStock = ⊥
IsUnput frame faults.NoMessage = ⊥
IsUnput frame faults.TooManyRows = ⊥
IsUnput frame faults.TooLong = 65535 < length frame
IsUnput frame faults.OutOfMemory = ⊤
