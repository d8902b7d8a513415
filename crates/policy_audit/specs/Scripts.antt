-- A list of calls, played on the policy, and what can be seen of a history.
use Rattle.std.specs.Prelude.{ℕ, Bool, List, [], ◌∷◌, Option}
use Rattle.std.specs.List.{filter}
use Rattle.policy_audit.specs.declared.event.Event.{Event}
use Rattle.policy_audit.specs.declared.entry.Verdict.{Verdict}
use Rattle.policy_audit.specs.OutFrame.{OutFrame}
use Rattle.policy_audit.specs.History.{History}
use Rattle.policy_audit.specs.Own.{running_scopes}
use Rattle.policy_audit.specs.Sides.{peer_of, is_visible, Awaited, awaits}
use Rattle.policy_audit.specs.Links.{is_open, is_up}
use Rattle.policy_audit.specs.Hearing.{heard, told}
use Rattle.policy_audit.specs.Owed.{waiting, is_kept}
use Rattle.policy_audit.specs.Policy.{verdict, after}

-- an event that a seat asks for
pub record Call : Type 0 where
  pub seat : ℕ
  pub event : Event

-- the history after a list of calls
abbrev pub play : History → List Call → History
play h [] = h
play h (c ∷ cs) = play (after h c.seat c.event) cs

-- the verdicts on a list of calls
abbrev pub verdicts : History → List Call → List Verdict
verdicts h [] = []
verdicts h (c ∷ cs) = verdict h c.seat c.event ∷ verdicts (after h c.seat c.event) cs

-- what can be seen of a link
pub record Shown : Type 0 where
  pub is_open : Bool
  pub is_up : Bool
  pub is_kept : Bool
  pub is_visible : Bool
  pub peer : Option (List ℕ)
  pub awaits : Awaited
  pub told : List (List ℕ)
  pub heard : List (List ℕ)
  pub waiting : List OutFrame

-- what can be seen of link l
abbrev pub show : History → ℕ → Shown
show h l = record {
  is_open = is_open l h.entries;
  is_up = is_up l h.entries;
  is_kept = is_kept h l;
  is_visible = is_visible h l;
  peer = peer_of l h.entries;
  awaits = awaits l h.entries;
  told = filter (λ s. told h.opening l s h.entries) (running_scopes h);
  heard = filter (λ s. heard h.opening l s h.entries) (running_scopes h);
  waiting = waiting h l;
}
