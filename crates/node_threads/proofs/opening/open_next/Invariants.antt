use Rattle.node_threads.specs
use Rattle.std.proofs.Common.{None}
use specs.Accepting.{Opens}
use specs.Drawing.{Draws, new_challenges}
use Rattle.node_threads.proofs.opening.open_next.Given as goal

-- those so far were refused, and had the next words
abbrev pub invariant-loop : goal.invariant-loop
invariant-loop g l = Opens None l.fn.reader l.reader × Draws (g.S.Rng.stream l.fn.source)
    (new_challenges l.fn.reader l.reader) (g.S.Rng.stream l.source)
