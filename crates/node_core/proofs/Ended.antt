-- An event that owes frames, by itself and with the links that end.
use Rattle.node_core.proofs
use Rattle.node_core.specs
use proofs.Words.{Accepted, audit_of, Bool, Change, committed, Event, Follows, History, IsAlone}
use proofs.Words.{IsChange, IsNext, just, KeptLink, List, map, Option, Parts, Reply, Running}
use proofs.Words.{with_entry, ℕ, ◌≡◌}
use Rattle.group_monitors.specs.Follows.{FollowsPolicy}
use specs.declared.slow.Ending.{Ending}
use specs.Ending.{AreEnded, ends_of, IsEnding}
use proofs.Ending.{ends_with, LeavesPeers}
use proofs.Entered.{made}

-- what the event changes by itself, of which this is known, and what is kept then
pub record Turns (h : History) (seat : ℕ) (ev : Event) (own : List Change) (parts : Parts)
    (stops : List ℕ → Bool) (Own : List Change → Type 0) : Type 0 where
  pub alone : IsAlone h (made h seat ev (Accepted Reply.Done) own)
  pub follows : Follows (just h (made h seat ev (Accepted Reply.Done) own)) parts
  pub leaves : LeavesPeers h (just h (made h seat ev (Accepted Reply.Done) own)) stops
  pub owned : (cs : List Change) → Own cs
      → IsChange h (just h (made h seat ev (Accepted Reply.Done) own)) cs
  pub monitors : (cs : List Change)
      → FollowsPolicy (audit_of (just h (made h seat ev (Accepted Reply.Done) cs))) parts.monitors

-- the same, with the links that end
pub turns_on : {h : History} {old : Parts} → Follows h old → (seat : ℕ) (ev : Event)
    → {own : List Change} {parts : Parts} {stops : List ℕ → Bool} {Own : List Change → Type 0}
    → Turns h seat ev own parts stops Own
    → (prepared : List KeptLink) → parts.links ≡ map committed prepared
    → (ending : Option Ending) → IsEnding (ends_of prepared) stops Own old.scopes ending
    → {scopes : List Running} {links : List KeptLink} {cs : List Change}
    → AreEnded ending own parts.scopes parts.links scopes links cs
    → IsNext h (made h seat ev (Accepted Reply.Done) cs)
    × Follows (with_entry h (made h seat ev (Accepted Reply.Done) cs))
    (record parts { scopes = scopes; links = links })
turns_on was seat ev {own} {parts} {stops} {Own} t prepared is ending endings ended =
    ends_with was seat ev (t.alone, t.follows) t.monitors t.leaves Own t.owned
    prepared is ending endings ended
