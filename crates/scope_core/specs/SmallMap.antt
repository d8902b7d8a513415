-- Ordered maps of which most have one entry, or few, and ordered maps of those.
use Rattle.std.specs.Prelude.{List, [], ◌∷◌, Option, None, Some}
use Rattle.std.specs.declared.cmp.Ordering.{Ordering}
use Rattle.std.specs.Ordering.{is_eq}
use Rattle.std.specs.Map.{lookup}
use Rattle.std.specs.BTreeMap.{BTreeMap, get}
use Rattle.scope_core.specs.declared.small_map.SmallMap.{SmallMap}
use Rattle.scope_core.specs.declared.small_map.SmallMap.TheVariants.{Empty, One, Few, Many}

-- the entries, in the keys' order
abbrev pub entries_of : {K V : Type 0} → SmallMap K V → List (K × V)
entries_of Empty = []
entries_of (One k v) = (k, v) ∷ []
entries_of (Few es) = es
entries_of (Many m) = m.entries

-- the value at the key
abbrev pub find : {K V : Type 0} → (K → K → Ordering) → SmallMap K V → K → Option V
find cmp m k = lookup (λ q. is_eq (cmp k q)) (entries_of m)

-- the value at the key, if there is a map
abbrev pub found : {K V : Type 0} → (K → K → Ordering) → Option (SmallMap K V) → K → Option V
found cmp None k = None
found cmp (Some m) k = find cmp m k

-- the value at both keys
abbrev pub find_in : {A B V : Type 0} → (A → A → Ordering) → (B → B → Ordering)
    → BTreeMap A (SmallMap B V) → A → B → Option V
find_in outer inner m a b = found inner (get outer m a) b
