use Rattle.std.proofs.Common.{length, ◌++◌, ◌≡◌}
use Rattle.policy_audit.specs.Pages.{entries_in}
use Rattle.policy_audit.proofs.later.LaterIterator.next.Given as goal

-- the same entries are left
abbrev pub invariant-loop-self : goal.invariant-loop-self
invariant-loop-self l = l.self-inside.page.now ++ entries_in l.self-inside.pages.now ≡ l.fn.self

abbrev pub decreases-loop-self : goal.decreases-loop-self
decreases-loop-self l = length l.self-inside.pages.now
