use Rattle.std.proofs.Common.{length, ◌≡◌}
use Rattle.std.specs.List.{filter}
use Rattle.policy_audit.specs.Log.{changes_rows}
use Rattle.policy_audit.proofs.changing.ChangingIterator.next.Given as goal

-- the same changes are left
abbrev pub invariant-loop-entry : goal.invariant-loop-entry
invariant-loop-entry l = filter changes_rows l.self-inside.later ≡ l.fn.self

abbrev pub decreases-loop-entry : goal.decreases-loop-entry
decreases-loop-entry l = length l.self-inside.later
