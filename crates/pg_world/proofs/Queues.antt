-- A queue that has changed in its wire.
use Rattle.pg_world.proofs
use proofs.Words.{ap, changed_queue, List, OutFrame, Side, sym, under_way, Wire, with_queue, ◌∙◌}
use proofs.Words.{◌≡◌}

-- v is y with q towards this side, which is the side meant of the wire meant
pub put : (at to : Side) (x y v : Wire) (f : List OutFrame → List OutFrame) (q : List OutFrame)
    → at ≡ to → y ≡ x → q ≡ f (under_way to y) → v ≡ with_queue to q y → v ≡ changed_queue at f x
put at to x y v f q side is moved made = made ∙ ap (λ r. with_queue to r y) moved
    ∙ (λ i. changed_queue (sym side i) f (is i))
