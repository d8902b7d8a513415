use Rattle.std.proofs.Common.{length, take, ◌≤◌}
use Rattle.std.specs.Io.KnownBytes.{Appends}
use Rattle.pg_script.proofs.script.send.Given as goal

-- the first bytes are sent
abbrev pub invariant-loop : goal.invariant-loop
invariant-loop g l = (l.sent ≤ length l.bytes) × Appends (g.W.Write.contents l.fn.writer)
    (g.W.Write.contents l.writer) (take l.sent l.bytes)
