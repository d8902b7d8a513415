-- What a node keeps is what its history says.
use Rattle.std.specs.Prelude.{◌≡◌, ℕ, ◌≤◌, ◌<◌, ◌^◌, List, length}
use Rattle.handshake_frames.specs.Spelling.{IsVersion}
use Rattle.admission_rules.specs.Admission.{AdmissionRules}
use Rattle.group_monitors.specs.declared.monitor.Monitor.{Monitor}
use Rattle.group_monitors.specs.Follows.{FollowsPolicy, Reaches}
use Rattle.policy_audit.specs.declared.opening.Opening.{Opening}
use Rattle.policy_audit.specs.Log.{Log}
use Rattle.policy_audit.specs.History.{History, audit_of, entered}
use Rattle.policy_audit.specs.Own.{spawned}
use Rattle.policy_audit.specs.Policy.{IsPlayed, IsLegal, IsLegalIn, history}
use Rattle.node_core.specs.declared.kept.Kept.{Kept}
use Rattle.node_core.specs.declared.running.Running.{Running}
use Rattle.node_core.specs.Links.{KeptLink}
use Rattle.node_core.specs.Processes.{Spawned}
use Rattle.node_core.specs.LinkFacts.{link_words, LinksFollow}
use Rattle.node_core.specs.ScopeFacts.{scope_words, ScopesFollow}
use Rattle.node_core.specs.ProcessFacts.{process_words, ProcessesFollow}
use Rattle.node_core.specs.AdmissionFacts.{admission_words, AdmissionFollows}

-- each step of the history is the policy's, within its limit,
-- and the node knows version 1 of link messages, or 2 as well
pub record IsSound (h : History) : Type 0 where
  pub played : IsPlayed h
  pub fits : h.opening.entries < 2 ^ 32
  pub few : entered h.entries ≤ h.opening.entries
  pub few_spawned : spawned h ≤ entered h.entries
  pub links : IsVersion h.opening.links

-- what a node keeps that changes
pub record Parts : Type 0 where
  pub admission : AdmissionRules
  pub processes : Spawned
  pub scopes : List Running
  pub links : List KeptLink
  pub monitors : List (ℕ × Monitor)

-- all parts follow the history
pub record Follows (h : History) (parts : Parts) : Type 0 where
  pub sound : IsSound h
  pub admission : AdmissionFollows (admission_words h) parts.admission
  pub processes : ProcessesFollow (process_words h) parts.processes
  pub scopes : ScopesFollow (scope_words h) parts.scopes
  pub links : LinksFollow (link_words h) parts.links
  pub monitors : FollowsPolicy (audit_of h) parts.monitors

abbrev pub parts : Kept → Parts
parts kept = record {
  admission = kept.admission;
  processes = kept.processes;
  scopes = kept.scopes.items;
  links = kept.links.items;
  monitors = kept.monitors;
}

-- what is kept is that of a node with this history
pub record Keeps (h : History) (kept : Kept) : Type 0 where
  pub opening : kept.opening ≡ h.opening
  pub legal : IsLegal h
  pub follows : Follows h (parts kept)

-- a node whose audit has these entries: they are the policy's, as many as it may have, some of the
-- oldest were handed out, no monitor has still to be told of one of those, and what is kept follows
pub record IsCore (opening : Opening) (audit : Log) (kept : Kept) : Type 0 where
  pub within : audit.limit ≡ opening.entries
  pub legal : IsLegalIn opening audit.entries
  pub had : audit.forgotten ≤ length audit.entries
  pub reach : Reaches audit.forgotten audit.entries
  pub follows : Follows (history opening audit.entries) (parts kept)
