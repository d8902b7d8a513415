use Rattle.node_core.proofs
use proofs.Words.{into_iter_items, length, vec_capacity, vec_len, ◌++◌, ◌+◌, ◌≡◌, ◌≤◌}
use proofs.waiting.put_frames.Given as goal

-- the frames so far wait, and there is room for the others
abbrev pub invariant-loop-frame : goal.invariant-loop-frame
invariant-loop-frame l = record {
  able : (goal.iterator-loop-frame).can_next l.frame-iterator;
  finite : (goal.iterator-loop-frame).is_finite l.frame-iterator;
  all : l.waiting.items ++ into_iter_items l.frame-iterator
      ≡ l.initial.waiting.items ++ l.fn.frames.items;
  room : vec_len l.waiting + length (into_iter_items l.frame-iterator) ≤ vec_capacity l.waiting;
  kept : vec_capacity l.initial.waiting ≤ vec_capacity l.waiting;
}
