-- Entries that nodes of a world hand out.
use Rattle.std.specs.Prelude.{◌≡◌, ℕ, List, Some, slice_get}
use Rattle.policy_audit.specs.declared.entry.Entry.{Entry}
use Rattle.policy_audit.specs.History.{History, audited}
use Rattle.policy_audit.specs.Pages.{IsPageBehind}
use Rattle.pg_world.specs.World.{Nodes}

-- a page of the entries of the node at this place, which stands behind so many that were handed out
pub record IsPageOf (place : ℕ) (w : Nodes) (page : List Entry) : Type 0 where
  pub node : History
  pub stands : slice_get w.nodes place ≡ Some node
  pub handed : ℕ
  pub behind : IsPageBehind handed (audited node.entries) page
