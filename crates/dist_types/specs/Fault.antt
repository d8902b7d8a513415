-- Why bytes are refused. No two faults hold of the same bytes; want of memory comes last.
use Rattle.std.specs.Prelude.{◌≡◌, ℕ, ◌<◌, ◌≤◌, List, [], length, All}
use Rattle.dist_types.specs.declared.fault.TextFault.{TextFault}
use Rattle.dist_types.specs.declared.fault.TextFault.TheVariants.{Empty, TooLong, BadByte, BadAt, OutOfMemory}
use Rattle.dist_types.specs.Text.{IsTextByte, IsText, HasInnerAt, IsNodeName}

-- a fault of the length or of a byte, which comes before the others
abbrev pub IsByteFault : TextFault → List ℕ → Type 0
IsByteFault Empty bytes = bytes ≡ []
IsByteFault TooLong bytes = 255 < length bytes
IsByteFault BadByte bytes = (0 < length bytes) × (length bytes ≤ 255) × ¬ All IsTextByte bytes
IsByteFault BadAt bytes = ⊥
IsByteFault OutOfMemory bytes = ⊥

-- why bytes are no scope, no group and no cookie
abbrev pub IsTextFault : TextFault → List ℕ → Type 0
IsTextFault OutOfMemory bytes = IsText bytes
IsTextFault fault bytes = IsByteFault fault bytes

-- why bytes are no name
abbrev pub IsNameFault : TextFault → List ℕ → Type 0
IsNameFault BadAt bytes = IsText bytes × ¬ HasInnerAt bytes
IsNameFault OutOfMemory bytes = IsNodeName bytes
IsNameFault fault bytes = IsByteFault fault bytes
