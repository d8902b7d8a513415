-- Nodes with which a world begins.
use Rattle.std.specs.Prelude.{◌≡◌, ◌≢◌, ℕ, List, [], Some, slice_get}
use Rattle.policy_audit.specs.History.{History}
use Rattle.frame_laws.specs.Written.{IsNode}
use Rattle.pg_world.specs.declared.fault.NodesFault.{NodesFault}
use Rattle.pg_world.specs.declared.fault.NodesFault.TheVariants as nodes_fault
use Rattle.pg_world.specs.World.{DifferInName, ShareAName}

-- a node that has seen nothing
pub record IsNew (h : History) : Type 0 where
  pub node : IsNode h
  pub empty : h.entries ≡ []

-- all are so
abbrev pub AreNew : List History → Type 0
AreNew hs = (i : ℕ) (h : History) → slice_get hs i ≡ Some h → IsNew h

-- one of them has seen something
pub record HaveEntries (hs : List History) : Type 0 where
  pub place : ℕ
  pub node : History
  pub stands : slice_get hs place ≡ Some node
  pub some : node.entries ≢ []

-- why they make no world: names come first
abbrev pub IsNodesFault : NodesFault → List History → Type 0
IsNodesFault nodes_fault.SameName hs = ShareAName hs
IsNodesFault nodes_fault.HasEntries hs = DifferInName hs × HaveEntries hs
IsNodesFault nodes_fault.OutOfMemory hs = DifferInName hs × AreNew hs
