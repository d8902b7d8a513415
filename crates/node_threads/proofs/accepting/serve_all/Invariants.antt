use Rattle.node_threads.specs
use Rattle.std.proofs.Common.{length, List, vec_capacity, vec_len, ℕ, ◌≡◌, ◌≤◌}
use specs.Accepting.{SoFar}
use specs.Challenges.{AllWillHave, DrawnSoFar}
use Rattle.node_threads.proofs.accepting.serve_all.Given as goal

-- the pairs so far, room for all, and the words that were drawn for them
abbrev pub invariant-loop-pair : goal.invariant-loop-pair
invariant-loop-pair g l = SoFar l.stop l.yielded l.held.items × (vec_len l.held ≡ length l.yielded)
    × (vec_len l.fn.pairs ≤ vec_capacity l.held)
    × ((words : List ℕ) × AllWillHave l.yielded words l.held.items × DrawnSoFar l.stop
    (g.S.Rng.stream l.fn.source) words (g.S.Rng.stream l.source))
