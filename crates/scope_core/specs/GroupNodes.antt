-- The nodes of each group.
use Rattle.std.specs.Prelude.{◌≡◌, ℕ, cond, List, [], ◌∷◌, map, Option, None, Some, Vec}
use Rattle.std.specs.List.{flat_map}
use Rattle.std.specs.List.Sorted.{IsPartitionPoint}
use Rattle.std.specs.Map.{lookup}
use Rattle.std.specs.declared.alloc.Global.{Global}
use Rattle.std.specs.declared.cmp.Ordering.TheVariants.{Less, Greater}
use Rattle.dist_types.specs.Order.{text_cmp}
use Rattle.dist_types.specs.Listing.{same, how_many, Rises}
use Rattle.dist_types.specs.Difference.{is_empty}

-- each group with its nodes
abbrev pub node_names : List (List ℕ × Vec (List ℕ) Global) → List (List ℕ × List (List ℕ))
node_names es = map (λ e. (e.0, e.1.items)) es

-- the nodes of a group, if it has a list
abbrev pub nodes_in : Option (List (List ℕ)) → List (List ℕ)
nodes_in None = []
nodes_in (Some ns) = ns

-- the nodes of the group
abbrev pub nodes_of : List (List ℕ × List (List ℕ)) → List ℕ → List (List ℕ)
nodes_of index g = nodes_in (lookup (same g) index)

-- how often the node stands in the list of the group
abbrev pub times_named : List (List ℕ × List (List ℕ)) → List ℕ → List ℕ → ℕ
times_named index g n = how_many (λ m. same m n) (nodes_of index g)

-- the nodes of each group rise by their names, so that none stands there twice
abbrev pub AreInOrder : List (List ℕ × List (List ℕ)) → Type 0
AreInOrder index = (g : List ℕ) → Rises text_cmp (nodes_of index g)

-- the names below the name end here, and those above it begin
abbrev pub IsNameGap : List ℕ → List (List ℕ) → ℕ → Type 0
IsNameGap n ns i = IsPartitionPoint (λ m. text_cmp m n ≡ Less) (λ m. text_cmp m n ≡ Greater) ns i

-- the groups of which a node is named
abbrev pub named_groups : List (List ℕ × List (List ℕ)) → List (List ℕ)
named_groups index = flat_map (λ e. cond (is_empty e.1) [] (e.0 ∷ [])) index
