-- Links that end because too many frames wait for them, and what changes with them.
use Rattle.std.specs.Prelude.{◌≡◌, ℕ, Bool, false, not, nat_lt, List, [], ◌∷◌, ◌++◌, Option, Some}
use Rattle.std.specs.Prelude.{None, map, length}
use Rattle.std.specs.List.{filter, flat_map, AllByRecursion, AllZip}
use Rattle.std.specs.Borrow.{Bor}
use Rattle.std.specs.Option.{option_map_or, option_to_list}
use Rattle.dist_types.specs.declared.change.GroupChange.{GroupChange}
use Rattle.dist_types.specs.declared.pid.Pid.{Pid}
use Rattle.dist_types.specs.Difference.{is_empty, IsDifference, IsProper, times_left, times_joined}
use Rattle.dist_types.specs.Listing.{Rises, same}
use Rattle.dist_types.specs.Order.{text_cmp}
use Rattle.policy_audit.specs.declared.change.Change.{Change}
use Rattle.policy_audit.specs.Changes.{groups_in}
use Rattle.policy_audit.specs.Owed.{max_waiting}
use Rattle.scope_core.specs.Table.{Table, count_of}
use Rattle.scope_core.specs.Calls.{count_after_drop}
use Rattle.node_core.specs.declared.running.Running.{Running}
use Rattle.node_core.specs.declared.slow.End.{End}
use Rattle.node_core.specs.declared.slow.Ending.{Ending}
use Rattle.node_core.specs.Links.{KeptLink, up_peer, without_number}
use Rattle.node_core.specs.Parting.{IsCutOff}

-- with those that are prepared, too many frames wait for the link
abbrev pub is_overfull : KeptLink → Bool
is_overfull x = nat_lt max_waiting (length (x.frames ++ x.prepared))

-- the end of the link, if it is up
abbrev pub end_of : KeptLink → List End
end_of x = map (λ n. record { number = x.number; peer = n }) (option_to_list (up_peer x.state))

-- the ends of the links for which too many frames wait
abbrev pub ends_of : List KeptLink → List End
ends_of links = flat_map end_of (filter is_overfull links)

-- whether it is the scope that stops, where one does
abbrev pub is_stopped : Option (Bor (List ℕ)) → List ℕ → Bool
is_stopped stopped s = option_map_or (λ x. same x.now s) stopped false

-- ---- what changes

-- changes of groups in their order, each group once, by which as many leave and join as by those
pub record AreGathered (gs gathered : List GroupChange) : Type 0 where
  pub groups : Rises text_cmp (map (λ c. c.group) gathered)
  pub proper : AllByRecursion IsProper gathered
  pub left : (g : List ℕ) (p : Pid) → times_left g p gathered ≡ times_left g p gs
  pub joined : (g : List ℕ) (p : Pid) → times_joined g p gathered ≡ times_joined g p gs

-- what the leaving of each of these peers changes in a table
pub record AreLostGroups (t : Table) (ends : List End) (gs : List GroupChange) : Type 0 where
  pub lists : List (List GroupChange)
  pub each : AllZip (λ e ls. IsDifference (count_of t) (count_after_drop t e.peer) ls) ends lists
  pub all : gs ≡ flat_map (λ ls. ls) lists

-- what the leaving of these peers changes in a table comes behind other changes
abbrev pub Loses : Table → List End → List GroupChange → List GroupChange → Type 0
Loses t ends old new = (lost : List GroupChange) × AreLostGroups t ends lost × (new ≡ old ++ lost)

-- the change of a scope, perhaps none: the own one among these, and what is lost with the links,
-- unless the scope stops
pub record IsLossOf (ends : List End) (stops : List ℕ → Bool) (own : List Change) (r : Running)
    (c : Change) : Type 0 where
  pub scope : c.scope ≡ r.scope
  pub lost : List GroupChange
  pub each : AreLostGroups r.table (filter (λ e. not (stops r.scope)) ends) lost
  pub groups : AreGathered (groups_in r.scope own ++ lost) c.groups

-- the changes of all scopes, but those that have none:
-- these own ones, and what is lost with the links
pub record AreWithLost (ends : List End) (stops : List ℕ → Bool) (own : List Change)
    (rs : List Running) (cs : List Change) : Type 0 where
  pub all : List Change
  pub each : AllZip (IsLossOf ends stops own) rs all
  pub some : cs ≡ filter (λ c. not (is_empty c.groups)) all

-- where links end, these are they, and what changes with them and with own changes of which this is
-- known
abbrev pub IsEnding : List End → (List ℕ → Bool) → (List Change → Type 0) → List Running
    → Option Ending → Type 0
IsEnding ends stops Own rs None = ends ≡ []
IsEnding ends stops Own rs (Some e) = (own : List Change) × Own own × (e.ends.items ≡ ends)
    × AreWithLost ends stops own rs e.changes.items

-- ---- what ends

-- the scopes once all these links are gone
abbrev pub AreCutAll : List End → List Running → List Running → Type 0
AreCutAll [] old new = new ≡ old
AreCutAll (e ∷ es) old new =
    (mid : List Running) × AllZip (IsCutOff e.number e.peer) old mid × AreCutAll es mid new

-- the links but those that end
abbrev pub without_ends : List End → List KeptLink → List KeptLink
without_ends [] links = links
without_ends (e ∷ es) links = without_ends es (without_number e.number links)

-- what is changed and kept once they are gone, if any end
abbrev pub AreEnded : Option Ending → List Change → List Running → List KeptLink → List Running
    → List KeptLink → List Change → Type 0
AreEnded None own rs ks new links cs = (cs ≡ own) × (new ≡ rs) × (links ≡ ks)
AreEnded (Some e) own rs ks new links cs =
    (cs ≡ e.changes.items) × AreCutAll e.ends.items rs new × (links ≡ without_ends e.ends.items ks)
