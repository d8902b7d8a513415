use Rattle.scope_core.proofs
use proofs.Outcomes.{on_ok}
use Rattle.std.specs.List.Sorted.{IsStrictlySortedBy}
use proofs.hashed_rows.HashedRows.left_from.Goals as goal

pub returns-in-Empty-clause-ordered : goal.returns-in-Empty-clause-ordered
unfolding IsStrictlySortedBy
returns-in-Empty-clause-ordered c = rw c.in-Empty.is tt

pub returns-in_ok-left-in-One-clause-ordered : goal.returns-in_ok-left-in-One-clause-ordered
unfolding IsStrictlySortedBy
returns-in_ok-left-in-One-clause-ordered c = rw c.in-One.is (on_ok c.one_change.result (tt, tt))
