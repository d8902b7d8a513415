use Rattle.node_core.proofs.Words.{committed, drop, map, take, ◌++◌, ◌≡◌}
use Rattle.node_core.proofs.links.commit.Given as goal

-- those so far are committed
abbrev pub invariant-loop-link : goal.invariant-loop-link
invariant-loop-link l = l.link-items ≡ map committed (take l.link-index l.fn.links.items)
    ++ drop l.link-index l.fn.links.items
