use Rattle.scope_core.proofs
use proofs.Outcomes.{on_ok}
use Rattle.std.specs.List.Sorted.{IsStrictlySortedBy}
use proofs.group_members.push_pids.Goals as goal

pub returns-in-Empty-clause-ordered : goal.returns-in-Empty-clause-ordered
unfolding IsStrictlySortedBy
returns-in-Empty-clause-ordered c = rw c.in-Empty.is tt

pub returns-in-One-clause-ordered : goal.returns-in-One-clause-ordered
unfolding IsStrictlySortedBy
returns-in-One-clause-ordered c = rw c.in-One.is (on_ok c.push_times.result (tt, tt))
