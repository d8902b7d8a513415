-- Why the workers of a link stop, and what they tell.
use Rattle.std.specs.Prelude.{Bool, true, false, cond, Option, Some, None}
use Rattle.link_frames.specs.declared.fault.FeedFault.{FeedFault}
use Rattle.link_frames.specs.declared.fault.FeedFault.TheVariants as faults
use Rattle.policy_audit.specs.declared.rule.Rule.TheVariants as rules
use Rattle.node_core.specs.declared.fault.CoreFault.TheVariants.{Refused, OutOfMemory}
use Rattle.node_threads.specs.declared.fault.CallFault.{CallFault}
use Rattle.node_threads.specs.declared.fault.CallFault.TheVariants.{StrangePass, Core}
use Rattle.node_threads.specs.declared.ends.ReadEnd.{ReadEnd}
use Rattle.node_threads.specs.declared.ends.ReadEnd.TheVariants as ends
use Rattle.node_threads.specs.declared.ends.WriteEnd.{WriteEnd}
use Rattle.node_threads.specs.declared.ends.WriteEnd.TheVariants as write_ends
use Rattle.node_threads.specs.declared.retreat.RetreatStep.{RetreatStep}
use Rattle.node_threads.specs.declared.retreat.RetreatStep.TheVariants as steps

abbrev pub read_end_of_feed : FeedFault → ReadEnd
read_end_of_feed faults.TooLong = ends.TooLong
read_end_of_feed faults.OutOfMemory = ends.Memory

-- which end follows on a frame without a reply, if one does: a handshake ends when it is refused;
-- one that is done outlives refusals
abbrev pub end_of : CallFault → Bool → Option ReadEnd
end_of StrangePass done = Some ends.StrangePass
end_of (Core OutOfMemory) done = Some ends.Memory
end_of (Core (Refused rules.EntriesFull)) done = Some ends.EntriesFull
end_of (Core (Refused rules.NoSuchLink)) done = Some ends.Gone
end_of (Core (Refused rule)) done = cond done None (Some (ends.Refused rule))

-- which end follows on a Take without a reply
abbrev pub take_end : CallFault → WriteEnd
take_end StrangePass = write_ends.StrangePass
take_end (Core OutOfMemory) = write_ends.Memory
take_end (Core (Refused rules.EntriesFull)) = write_ends.EntriesFull
take_end (Core (Refused rule)) = write_ends.Gone

-- a reader that stops so gives its link up
abbrev pub reader_gives_up : ReadEnd → Bool
reader_gives_up ends.Closed = true
reader_gives_up ends.TooLong = true
reader_gives_up ends.ReadFault = true
reader_gives_up ends.Memory = true
reader_gives_up end = false

-- a writer that stops so does
abbrev pub writer_gives_up : WriteEnd → Bool
writer_gives_up write_ends.WriteFault = true
writer_gives_up write_ends.Memory = true
writer_gives_up end = false

-- what a reader that stops so tells, once giving its link up came to this
abbrev pub read_end_after : RetreatStep → ReadEnd → ReadEnd
read_end_after steps.Stuck stop = ends.StuckLink
read_end_after steps.Full stop = ends.EntriesFull
read_end_after steps.Again stop = stop
read_end_after steps.Settled stop = stop

-- what a writer tells
abbrev pub write_end_after : RetreatStep → WriteEnd → WriteEnd
write_end_after steps.Stuck stop = write_ends.StuckLink
write_end_after steps.Full stop = write_ends.EntriesFull
write_end_after steps.Again stop = stop
write_end_after steps.Settled stop = stop
