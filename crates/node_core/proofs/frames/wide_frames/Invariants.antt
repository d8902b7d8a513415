use Rattle.node_core.proofs
use proofs.Words.{AllByRecursion, into_iter_items, length, vec_capacity, vec_len, wide_frames, ◌++◌}
use proofs.Words.{◌+◌, ◌≡◌, ◌≤◌}
use Rattle.link_frames.specs.Stream.{max_body}
use proofs.frames.wide_frames.Given as goal

-- the bodies so far are frames, and there is room for the others, which are short
abbrev pub invariant-loop-body : goal.invariant-loop-body
invariant-loop-body l = record {
  able : (goal.iterator-loop-body).can_next l.body-iterator;
  finite : (goal.iterator-loop-body).is_finite l.body-iterator;
  all : l.frames.items ++ wide_frames (into_iter_items l.body-iterator)
      ≡ wide_frames l.fn.bodies.items;
  room : vec_len l.frames + length (into_iter_items l.body-iterator) ≤ vec_capacity l.frames;
  short : AllByRecursion (λ body. length body ≤ max_body) (into_iter_items l.body-iterator);
}
