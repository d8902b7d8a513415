use Rattle.scope_core.proofs
use proofs.Words.{counted_cmp, GroupChange, length, List, Rises, ◌++◌, ◌+◌}
use proofs.Told.{Told}
use proofs.changes.changes_of.Given as goal

-- with what is told of the rows to come, all is told
abbrev pub invariant-loop-group : goal.invariant-loop-group
invariant-loop-group l = record {
  left : Rises counted_cmp l.left;
  more : Rises counted_cmp l.more;
  told : (rest : List GroupChange) → Told l.left l.more rest
      → Told l.gone l.joined (l.changes.items ++ rest);
}

abbrev pub decreases-loop-group : goal.decreases-loop-group
decreases-loop-group l = length l.left + length l.more
