-- Counts that are lowered by rows of a list, and may be raised again.
use Rattle.std.specs.Prelude.{◌≡◌, ℕ, suc, List, [], ◌∷◌}
use Rattle.std.specs.Option.{unwrap_or}
use Rattle.std.specs.Map.{lookup, set_value, keys_of}
use Rattle.dist_types.specs.declared.row.Row.{Row}
use Rattle.dist_types.specs.Listing.{same_row}
use Rattle.scope_core.specs.Added.{Adds}
use Rattle.scope_core.specs.HashedRows.{counted_in}

-- the entries with one more of the row, if it is there
abbrev pub once_more : Row → List (Row × ℕ) → List (Row × ℕ)
once_more row es = set_value (same_row row) es (suc (unwrap_or (lookup (same_row row) es) 0))

-- the entries with one more for each row of the list, from its last one on
abbrev pub raised : List Row → List (Row × ℕ) → List (Row × ℕ)
raised [] es = es
raised (r ∷ rs) es = once_more r (raised rs es)

-- new has one less than old for each row of the list, and becomes old again where they are raised
pub record IsLowered (gone : List Row) (new old : List (Row × ℕ)) : Type 0 where
  pub adds : Adds gone (counted_in new) (counted_in old)
  pub raised : raised gone new ≡ old
  pub keys : keys_of new ≡ keys_of old
