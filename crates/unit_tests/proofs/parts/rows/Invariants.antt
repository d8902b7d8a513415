use Rattle.std.proofs.Common.{length, ◌≡◌}
use Rattle.unit_tests.proofs.parts.rows.Given as goal

abbrev pub invariant-loop-place : goal.invariant-loop-place
invariant-loop-place l = length l.rows.items ≡ l.place
