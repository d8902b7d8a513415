-- Why the text of a field makes a body no message.
use Rattle.dist_types.specs.declared.fault.TextFault.{TextFault}
use Rattle.dist_types.specs.declared.fault.TextFault.TheVariants as texts
use Rattle.link_frames.specs.declared.fault.MessageFault.{MessageFault}
use Rattle.link_frames.specs.declared.fault.MessageFault.TheVariants as faults

-- bytes that are no text of their kind make the body no message
abbrev pub fault_of : TextFault → MessageFault
fault_of texts.OutOfMemory = faults.OutOfMemory
fault_of fault = faults.BadFrame
