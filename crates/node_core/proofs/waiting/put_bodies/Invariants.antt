use Rattle.node_core.proofs
use proofs.Words.{into_iter_items, length, narrow_frames, vec_capacity, vec_len, ◌++◌, ◌+◌, ◌≡◌}
use proofs.Words.{◌≤◌}
use proofs.waiting.put_bodies.Given as goal

-- the bodies so far wait as frames, and there is room for the others
abbrev pub invariant-loop-body : goal.invariant-loop-body
invariant-loop-body l = record {
  able : (goal.iterator-loop-body).can_next l.body-iterator;
  finite : (goal.iterator-loop-body).is_finite l.body-iterator;
  all : l.waiting.items ++ narrow_frames (into_iter_items l.body-iterator)
      ≡ l.initial.waiting.items ++ narrow_frames l.fn.bodies.items;
  room : vec_len l.waiting + length (into_iter_items l.body-iterator) ≤ vec_capacity l.waiting;
  kept : vec_capacity l.initial.waiting ≤ vec_capacity l.waiting;
}
