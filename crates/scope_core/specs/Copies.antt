-- The groups of a node's processes, in lists.
use Rattle.std.specs.Prelude.{ℕ, Bool, ◌&&◌, List, map}
use Rattle.std.specs.List.{list_any}
use Rattle.std.specs.Option.{is_some}
use Rattle.std.specs.Ordering.{is_eq, eq_by_cmp}
use Rattle.dist_types.specs.Order.{text_cmp}
use Rattle.scope_core.specs.declared.counted.Counted.{Counted}
use Rattle.scope_core.specs.declared.process_key.ProcessKey.{ProcessKey}
use Rattle.scope_core.specs.declared.small_map.SmallMap.{SmallMap}
use Rattle.scope_core.specs.declared.small_map.SmallMap.TheVariants.{One}
use Rattle.scope_core.specs.SmallMap.{find}
use Rattle.scope_core.specs.HashedRows.{key_of, key_cmp}

-- the keys of the rows' processes
abbrev pub process_keys : List Counted → List ProcessKey
process_keys rows = map (λ c. key_of c.row.pid) rows

-- the groups of the rows, each with the key of its process
abbrev pub keyed : List Counted → List (ProcessKey × List ℕ)
keyed rows = map (λ c. (key_of c.row.pid, c.row.group)) rows

-- the same, each in a map of its own
abbrev pub keyed_maps : List Counted → List (ProcessKey × SmallMap (List ℕ) (Unit {0}))
keyed_maps rows = map (λ c. (key_of c.row.pid, One c.row.group tt)) rows

-- whether the group stands under the key
abbrev pub is_keyed : ProcessKey → List ℕ → List (ProcessKey × List ℕ) → Bool
is_keyed k g ps = list_any (λ p. is_eq (key_cmp k p.0) && eq_by_cmp text_cmp p.1 g) ps

-- whether the group stands in a map under the key
abbrev pub is_held : ProcessKey → List ℕ → List (ProcessKey × SmallMap (List ℕ) (Unit {0})) → Bool
is_held k g es = list_any (λ e. is_eq (key_cmp k e.0) && is_some (find text_cmp e.1 g)) es
