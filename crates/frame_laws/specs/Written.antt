-- Histories of nodes whose texts and numbers are within their limits.
use Rattle.std.specs.Prelude.{◌<◌, ◌≤◌, ◌^◌}
use Rattle.std.specs.List.{AllByRecursion}
use Rattle.dist_types.specs.Text.{IsText, IsNodeName}
use Rattle.handshake_frames.specs.Spelling.{IsVersion}
use Rattle.policy_audit.specs.declared.event.Event.{Event}
use Rattle.policy_audit.specs.declared.event.Event.TheVariants as event
use Rattle.policy_audit.specs.History.{History, entered}
use Rattle.policy_audit.specs.Policy.{IsPlayed}

-- the scopes, groups and challenges of an event are within their limits, as its type has them
abbrev pub IsWritten : Event → Type 0
IsWritten (event.StartScope s) = IsText s
IsWritten (event.StopScope s) = IsText s
IsWritten (event.Join s g ps) = IsText s × IsText g
IsWritten (event.Leave s g ps) = IsText s × IsText g
IsWritten (event.Dial n c) = c < 2 ^ 32
IsWritten (event.Opened c) = c < 2 ^ 32
IsWritten e = Unit {0}

-- what a node may have seen: its history is played as the policy says,
-- and what stands in it is within the limits
pub record IsNode (h : History) : Type 0 where
  pub legal : IsPlayed h
  pub room : entered h.entries ≤ h.opening.entries
  pub name : IsNodeName h.opening.name
  pub creation : h.opening.creation < 2 ^ 32
  pub entries : h.opening.entries < 2 ^ 32
  pub links : IsVersion h.opening.links
  pub written : AllByRecursion (λ e. IsWritten e.event) h.entries
