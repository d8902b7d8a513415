use Rattle.node_core.proofs
use proofs.Words.{AllByRecursion, count_of, into_iter_items, IsGroupListing, IsPidListing, map}
use proofs.Words.{◌++◌}
use proofs.monitoring.contents_of.Given as goal

-- the groups so far and those to come are all, and those so far have their members
abbrev pub invariant-loop-group : goal.invariant-loop-group
invariant-loop-group l = record {
  able : (goal.iterator-loop-group).can_next l.group-iterator;
  finite : (goal.iterator-loop-group).is_finite l.group-iterator;
  all : IsGroupListing (count_of l.running.table)
      (map (λ c. c.group) l.contents.items ++ into_iter_items l.group-iterator);
  each : AllByRecursion (λ c. IsPidListing (count_of l.running.table c.group) c.pids)
      l.contents.items;
}
