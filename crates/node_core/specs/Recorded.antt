-- A node as contracts see it.
use Rattle.std.specs.Prelude.{ℕ, ◌+◌, ◌<◌}
use Rattle.policy_audit.specs.History.{History, audited, entered}
use Rattle.policy_audit.specs.Pages.{page_size}
use Rattle.group_monitors.specs.Follows.{Reaches}

-- its whole history, and how many of the oldest entries of its audit were handed out
pub record Recorded : Type 0 where
  pub history : History
  pub forgotten : ℕ

-- the oldest page that is kept can be handed out: it isn't the last one, and no monitor has still
-- to be told of an entry in it
abbrev pub IsSpare : Recorded → Type 0
IsSpare node = (node.forgotten + page_size < entered node.history.entries)
    × Reaches (node.forgotten + page_size) (audited node.history.entries)
