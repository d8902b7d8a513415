-- The end of a process, as the links are told of it.
use Rattle.std.specs.Prelude.{◌≡◌, ◌≤◌, ℕ, Bool, not, List, [], ◌∷◌, ◌++◌, map}
use Rattle.std.specs.List.{filter, AllZip}
use Rattle.dist_types.specs.declared.pid.Pid.{Pid}
use Rattle.dist_types.specs.declared.change.GroupChange.{GroupChange}
use Rattle.dist_types.specs.Difference.{is_empty}
use Rattle.link_frames.specs.declared.message.Message.TheVariants as said
use Rattle.scope_core.specs.Calls.{count_after_exit}
use Rattle.scope_core.specs.Table.{local_total}
use Rattle.policy_audit.specs.declared.change.Change.{Change}
use Rattle.policy_audit.specs.OutFrame.{OutFrame}
use Rattle.node_core.specs.declared.running.Running.{Running}
use Rattle.node_core.specs.Links.{KeptLink, takes_parts, with_prepared, unroomed}
use Rattle.node_core.specs.Parting.{IsParting, rows_left}
use Rattle.node_core.specs.Telling.{if_among, said_in, said_to, told_limit}

-- the scope is of the node, and its own rows can be told at once
pub record IsOwnScope (node : List ℕ) (links : List KeptLink) (r : Running) : Type 0 where
  pub own : r.table.own ≡ node
  pub few : local_total r.table ≤ told_limit r.told.items links

-- the link, whatever its room and what is prepared for it
abbrev pub bare : KeptLink → KeptLink
bare link = unroomed (with_prepared link [])

-- the Leave of one scope, for a link that is told there
abbrev pub exit_frames : Running → List GroupChange → ℕ → Bool → List OutFrame
exit_frames r groups l parted =
    let m = said.Leave r.scope (rows_left groups) in
    if_among (said_to r.told.items m) (said_in m) l parted

-- the links with these frames more that are prepared, whatever their room
abbrev pub ArePrepared : (ℕ → Bool → List OutFrame) → List KeptLink → List KeptLink → Type 0
ArePrepared more old new =
    map unroomed new
    ≡ map (λ x. unroomed
    (with_prepared x (x.prepared ++ more x.number (takes_parts x.state)))) old

-- the Leaves of all scopes, with what changes in each
abbrev pub all_frames : List Running → List Change → ℕ → Bool → List OutFrame
all_frames [] cs l parted = []
all_frames (r ∷ rs) [] l parted = []
all_frames (r ∷ rs) (c ∷ cs) l parted =
    exit_frames r c.groups l parted ++ all_frames rs cs l parted

-- the changes of all scopes but those that have none, and the Leaves prepared
pub record AreExits (p : Pid) (rs : List Running) (old new : List KeptLink)
    (cs : List Change) : Type 0 where
  pub all : List Change
  pub each : AllZip (IsParting (λ t. count_after_exit t p)) rs all
  pub some : cs ≡ filter (λ c. not (is_empty c.groups)) all
  pub links : ArePrepared (all_frames rs all) old new
