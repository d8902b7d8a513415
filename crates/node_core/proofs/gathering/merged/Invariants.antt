use Rattle.node_core.proofs.Words.{into_iter_items, ◌++◌, ◌≡◌}
use Rattle.node_core.specs.Gathering.{AreMergedSoFar}
use Rattle.node_core.proofs.gathering.merged.Given as goal

-- the changes so far are merged
abbrev pub invariant-loop-change : goal.invariant-loop-change
invariant-loop-change l = record {
  able : (goal.iterator-loop-change).can_next l.change-iterator;
  finite : (goal.iterator-loop-change).is_finite l.change-iterator;
  all : l.yielded ++ into_iter_items l.change-iterator ≡ into_iter_items l.initial.change-iterator;
  merged : AreMergedSoFar l.yielded l.merged.items;
}
