-- Nodes by their names.
use Rattle.std.specs.Prelude.{ℕ, Bool, false, List, slice_get}
use Rattle.std.specs.List.{position_or_len}
use Rattle.std.specs.Option.{option_map_or}
use Rattle.dist_types.specs.Listing.{same}
use Rattle.policy_audit.specs.History.{History}

-- whether the node at a place has this name
abbrev pub is_named : List ℕ → List History → ℕ → Bool
is_named name hs i = option_map_or (λ h. same h.opening.name name) (slice_get hs i) false

-- the place of the first node of this name; where there is none, how many nodes there are
abbrev pub place_of : List ℕ → List History → ℕ
place_of name hs = position_or_len (λ h. same h.opening.name name) hs
