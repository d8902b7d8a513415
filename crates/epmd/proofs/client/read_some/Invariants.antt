use Rattle.std.proofs.Common.{length, ◌≤◌}
use Rattle.epmd.proofs.client.read_some.Given as goal

abbrev pub invariant-loop : goal.invariant-loop
invariant-loop g l = l.count ≤ length l.bytes
