use Rattle.pg_world.proofs.Words.{histories, length, ◌++◌, ◌+◌, ◌≡◌, ◌≤◌}
use Rattle.std.specs.Prelude.{vec_capacity, vec_len}
use Rattle.std.specs.Vec.Iter.{into_iter_items}
use Rattle.pg_world.proofs.world.take_all.Given as goal

-- those so far are taken, and there is room for the others
abbrev pub invariant-loop-core : goal.invariant-loop-core
invariant-loop-core l = record {
  able : (goal.iterator-loop-core).can_next l.core-iterator;
  finite : (goal.iterator-loop-core).is_finite l.core-iterator;
  all : l.taken.items ++ histories (into_iter_items l.core-iterator) ≡ histories l.fn.nodes.items;
  room : vec_len l.taken + length (into_iter_items l.core-iterator) ≤ vec_capacity l.taken;
}
