use Rattle.scope_core.proofs
use proofs.Words.{counted_cmp, length, List, ProcessKey, Rises, SmallMap, ℕ, ◌++◌}
use proofs.Making.{Indexes}
use proofs.node_indexes.groups_of.Given as goal

-- with an index of the rows to come, there is one of all
abbrev pub invariant-loop-first : goal.invariant-loop-first
invariant-loop-first l = record {
  rises : Rises counted_cmp l.rest;
  indexes : (tail : List (List ℕ × SmallMap ProcessKey ℕ)) → Indexes l.rest tail
      → Indexes l.rows (l.groups.items ++ tail);
}

abbrev pub decreases-loop-first : goal.decreases-loop-first
decreases-loop-first l = length l.rest
