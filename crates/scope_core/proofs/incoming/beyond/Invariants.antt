use Rattle.scope_core.proofs
use proofs.Words.{AllByRecursion, counted_cmp, drop, picked, Rises, times_beyond, ◌++◌, ◌≡◌}
use proofs.Merges.{IsCountedAs}
use proofs.incoming.beyond.Given as goal

-- what is more of the rows so far and to come; those left of the others count for the latter as all
abbrev pub invariant-loop-counted : goal.invariant-loop-counted
invariant-loop-counted l = record {
  rises : Rises counted_cmp l.rest;
  more : l.more.items ++ picked (times_beyond l.others) (drop l.counted-index l.rows)
      ≡ picked (times_beyond l.others) l.rows;
  low : AllByRecursion (IsCountedAs l.others l.rest) (drop l.counted-index l.rows);
}
