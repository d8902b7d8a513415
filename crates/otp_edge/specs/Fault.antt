-- Why bytes say nothing that is heard.
use Rattle.std.specs.Prelude.{◌≡◌, ◌≢◌, ◌<◌, List, length}
use Rattle.dist_types.specs.declared.fault.TextFault.{TextFault}
use Rattle.dist_types.specs.declared.fault.TextFault.TheVariants as texts
use Rattle.dist_types.specs.declared.row.Row.{Row}
use Rattle.otp_edge.specs.declared.fault.HearFault.{HearFault}
use Rattle.otp_edge.specs.declared.fault.HearFault.TheVariants as faults

-- a text that is no name makes no message
abbrev pub fault_of : TextFault → HearFault
fault_of texts.OutOfMemory = faults.OutOfMemory
fault_of fault = faults.NoMessage

-- why bytes aren't heard that speak of these rows: there are more than 65,536, or memory lacks
abbrev pub IsFaultOf : List Row → HearFault → Type 0
IsFaultOf rows fault = (fault ≢ faults.NoMessage)
    × (fault ≡ faults.TooManyRows → 65536 < length rows)
