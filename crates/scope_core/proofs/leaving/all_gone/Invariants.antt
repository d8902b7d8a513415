use Rattle.scope_core.proofs
use proofs.Words.{AllByRecursion, IsEmptied, map, take, ◌≡◌}
use proofs.leaving.all_gone.Given as goal

-- the groups so far are emptied
abbrev pub invariant-loop-group : goal.invariant-loop-group
invariant-loop-group l = record {
  names : map (λ c. c.group) l.changes.items ≡ take l.group-index l.group-items;
  emptied : AllByRecursion (IsEmptied l.rows) l.changes.items;
}
