use Rattle.node_core.proofs.Words.{broken_off, drop, map, take, ◌++◌, ◌≡◌}
use Rattle.node_core.proofs.links.break_off.Given as goal

-- nothing is kept of those so far
abbrev pub invariant-loop-link : goal.invariant-loop-link
invariant-loop-link l =
    l.link-items
    ≡ map (broken_off l.fn.scope) (take l.link-index l.fn.links.items)
    ++ drop l.link-index l.fn.links.items
