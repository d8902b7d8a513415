-- What one entry changed: the exact difference of all listings before it and after it.
use Rattle.std.specs.Prelude.{◌≡◌, ℕ, ◌-◌, false, cond, List, [], ◌∷◌, ◌++◌, map}
use Rattle.std.specs.List.{flat_map, AllByRecursion}
use Rattle.dist_types.specs.declared.change.GroupChange.{GroupChange}
use Rattle.dist_types.specs.Order.{text_cmp, pid_cmp}
use Rattle.dist_types.specs.Listing.{same, ascending, listing, Rises}
use Rattle.dist_types.specs.Difference.{is_empty, IsDifference, change_unless_empty}
use Rattle.policy_audit.specs.declared.event.Event.{Event}
use Rattle.policy_audit.specs.declared.change.Change.{Change}
use Rattle.policy_audit.specs.History.{History, events}
use Rattle.policy_audit.specs.Own.{scopes_started}
use Rattle.policy_audit.specs.Listed.{listed}
use Rattle.policy_audit.specs.Contents.{groups_named, pids_named}

-- the changed groups of s
abbrev pub groups_in : List ℕ → List Change → List GroupChange
groups_in s changes = flat_map (λ c. cond (same c.scope s) c.groups []) changes

-- the scopes ascend, each with changed groups, and these are the whole difference of what the two
-- histories list
pub record IsChange (h k : History) (changes : List Change) : Type 0 where
  pub scopes : Rises text_cmp (map (λ c. c.scope) changes)
  pub some : AllByRecursion (λ c. is_empty c.groups ≡ false) changes
  pub groups : (s : List ℕ) → IsDifference (listed h s) (listed k s) (groups_in s changes)

-- THE SAME, COMPUTED

-- the events of both
abbrev pub events_of : History → History → List Event
events_of h k = events h.entries ++ events k.entries

-- what left and what joined g between h and k
abbrev pub group_change : History → History → List ℕ → List ℕ → List GroupChange
group_change h k s g =
    let named = pids_named s g (events_of h k) in
    change_unless_empty g (listing pid_cmp (λ p. listed h s g p - listed k s g p) named)
    (listing pid_cmp (λ p. listed k s g p - listed h s g p) named)

-- the groups of s that changed between h and k, ascending
abbrev pub scope_change : History → History → List ℕ → List GroupChange
scope_change h k s = flat_map (group_change h k s)
    (ascending text_cmp (groups_named s (events_of h k)))

-- the change of a scope, where a group changed
abbrev pub if_some : List ℕ → List GroupChange → List Change
if_some s [] = []
if_some s (g ∷ gs) = record { scope = s; groups = g ∷ gs } ∷ []

-- the difference of what the two histories list
abbrev pub change : History → History → List Change
change h k = flat_map (λ s. if_some s (scope_change h k s))
    (ascending text_cmp (flat_map scopes_started (events_of h k)))
