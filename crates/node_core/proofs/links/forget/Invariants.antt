use Rattle.node_core.proofs
use proofs.Words.{unroomed, with_prepared, [], ◌≡◌}
use proofs.Zipped.{SoFar}
use proofs.links.forget.Given as goal

-- nothing is prepared for those so far
abbrev pub invariant-loop-link : goal.invariant-loop-link
invariant-loop-link l =
    SoFar (λ x y. unroomed y ≡ unroomed (with_prepared x [])) l.link-index l.fn.links.items
    l.link-items
