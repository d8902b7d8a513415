use Rattle.node_core.proofs.Words.{filter, is_shown, map, take, ◌≡◌}
use Rattle.node_core.proofs.links.shown.Given as goal

-- the numbers so far
abbrev pub invariant-loop-link : goal.invariant-loop-link
invariant-loop-link l = l.numbers.items
    ≡ map (λ x. x.number) (filter (λ x. is_shown x.state) (take l.link-index l.links))
