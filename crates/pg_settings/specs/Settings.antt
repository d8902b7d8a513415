-- What a life of a node is told before anything else.
use Rattle.std.specs.Prelude.{◌≡◌, ℕ, Bool, true, false, cond, List, [], ◌∷◌, ◌++◌, map, reverse}
use Rattle.std.specs.Prelude.{Err}
use Rattle.std.specs.List.{All}
use Rattle.dist_types.specs.Listing.{same}
use Rattle.dist_types.specs.Difference.{is_empty}
use Rattle.admission_rules.specs.Admission.{AdmissionRules}
use Rattle.policy_audit.specs.declared.event.Event.{Event}
use Rattle.policy_audit.specs.declared.event.Event.TheVariants as event
use Rattle.policy_audit.specs.History.{History, events, is_accepted}
use Rattle.policy_audit.specs.Admission.{allowed, cookie}
use Rattle.policy_audit.specs.Own.{is_running, running_scopes}
use Rattle.node_core.specs.AdmissionFacts.{admission_words, AdmissionFollows}
use Rattle.node_threads.specs.declared.pass.Call.{Call}
use Rattle.node_threads.specs.declared.fault.CallFault.{CallFault}
use Rattle.node_threads.specs.Applied.{Called}
use Rattle.node_threads.specs.Calls.{Gains, Record}

-- ---- the calls that say it

-- a cookie for each of these peers
abbrev pub cookies_told : List (List ℕ × List ℕ) → List Event
cookies_told peers = map (λ p. event.SetCookieFor p.0 p.1) peers

-- these names, where there are any
abbrev pub names_told : List (List ℕ) → List Event
names_told names = cond (is_empty names) [] (event.Allow names ∷ [])

-- these scopes
abbrev pub scopes_told : List (List ℕ) → List Event
scopes_told scopes = map event.StartScope scopes

-- the node's own cookie, unless the life has begun with it
abbrev pub own_told : List ℕ → List ℕ → List Event
own_told begun own = cond (same own begun) [] (event.SetCookie own ∷ [])

-- cookies, names and scopes
abbrev pub all_told : List ℕ → AdmissionRules → List (List ℕ) → List Event
all_told begun rules scopes =
    own_told begun rules.cookie ++ cookies_told rules.peers
    ++ names_told rules.allowed ++ scopes_told scopes

-- a call that sets a cookie, allows names or starts a scope
abbrev pub is_setting : Event → Bool
is_setting (event.SetCookie cookie) = true
is_setting (event.SetCookieFor name cookie) = true
is_setting (event.Allow names) = true
is_setting (event.StartScope scope) = true
is_setting e = false

-- all that a life holds: for some rules of its admission, which keep each cookie and name once
abbrev pub TellsAll : List ℕ → History → List Event → Type 0
TellsAll begun last told =
    (rules : AdmissionRules) × AdmissionFollows (admission_words last) rules
    × (told ≡ all_told begun rules (running_scopes last))

-- ---- what they make

-- a life of the node of this name, which has begun with this cookie: just these events were
-- accepted in it, the oldest first
pub record IsToldJust (name begun : List ℕ) (told : List Event) (life : History) : Type 0 where
  pub own : life.opening.name ≡ name
  pub opened : life.opening.cookie ≡ begun
  pub accepted : events life.entries ≡ reverse told

-- in both lives each name has the same cookie and is allowed alike, and the same scopes run
pub record HoldsAlike (last next : History) : Type 0 where
  pub cookies : (name : List ℕ) → cookie next name ≡ cookie last name
  pub names : (name : List ℕ) → allowed next name ≡ allowed last name
  pub scopes : (scope : List ℕ) → is_running next scope ≡ is_running last scope

-- a life that begins with this cookie and is told just these events holds what the last one did
abbrev pub Renews : List ℕ → History → List Event → Type 0
Renews begun last told =
    (next : History) → IsToldJust last.opening.name begun told next → HoldsAlike last next

-- ---- who says them

-- the pass has made just these calls, in this order, and each was accepted
pub record AreSaid (told : List Event) (pass pass' : Record) : Type 0 where
  pub calls : List Call
  pub gains : Gains pass calls pass'
  pub events : map (λ (c : Call). c.event) calls ≡ told
  pub accepted : All (λ (c : Call). is_accepted c.verdict ≡ true) calls

-- the first of these were accepted, the next was answered with this fault, and nothing was called
-- behind it
pub record StopsAt (fault : CallFault) (told : List Event) (pass pass' : Record) : Type 0 where
  pub first : List Event
  pub event : Event
  pub rest : List Event
  pub order : told ≡ first ++ event ∷ rest
  pub mid : Record
  pub said : AreSaid first pass mid
  pub refused : Called mid event (Err fault) pass'
