-- Entries that changed no rows tell nothing.
use Rattle.group_monitors.proofs
use proofs.Words.{arith, changes_rows, Entry, filter, flat_map, List, refl, Target, updates_of, []}
use proofs.Words.{◌∷◌, ◌≡◌}

pub changing_tell : (t : Target) (es : List Entry)
    → flat_map (λ e. updates_of t e.change) (filter changes_rows es) ≡ flat_map
    (λ e. updates_of t e.change) es
changing_tell t [] = refl
changing_tell t (e ∷ es) = grind (arith, changing_tell t es)
