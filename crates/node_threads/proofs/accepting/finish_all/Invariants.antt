use Rattle.std.proofs.Common.{length, vec_capacity, vec_len, ◌≡◌, ◌≤◌}
use Rattle.std.specs.List.{AllZip}
use Rattle.node_threads.specs.Accepting.{Finishes}
use Rattle.node_threads.proofs.accepting.finish_all.Given as goal

-- those so far have come back
abbrev pub invariant-loop-one : goal.invariant-loop-one
invariant-loop-one g l = AllZip Finishes l.yielded l.back.items
    × (vec_len l.back ≡ length l.yielded) × (vec_len l.fn.held ≤ vec_capacity l.back)
