-- A frame as it goes over the wire (Distribution Protocol, Distribution Handshake and Protocol
-- between Connected Nodes).
use Rattle.std.specs.Prelude.{ℕ, ◌<◌, ◌^◌, List, length, if◌then◌else◌}
use Rattle.std.specs.Int.{Width, w16, w32, byte_len}
use Rattle.handshake_frames.specs.Spelling.{counted}
use Rattle.policy_audit.specs.OutFrame.{OutFrame}

-- the width of the length: 4 bytes after the handshake, 2 in it
abbrev pub width_of : OutFrame → Width
width_of frame = if frame.wide then w32 else w16

-- the body behind its length
abbrev pub wire_bytes : OutFrame → List ℕ
wire_bytes frame = counted (width_of frame) frame.body

-- the body's length can be written in that width
abbrev pub FitsWire : OutFrame → Type 0
FitsWire frame = length frame.body < 256 ^ byte_len (width_of frame)
