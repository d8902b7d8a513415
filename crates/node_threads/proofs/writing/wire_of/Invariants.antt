use Rattle.std.proofs.Common.{take, ◌≡◌}
use Rattle.std.specs.List.{flat_map}
use Rattle.policy_audit.specs.Wire.{wire_bytes}
use Rattle.node_threads.proofs.writing.wire_of.Given as goal

-- the wire form of the frames so far
abbrev pub invariant-loop-frame : goal.invariant-loop-frame
invariant-loop-frame l = l.bytes.items ≡ flat_map wire_bytes (take l.frame-index l.frames)
