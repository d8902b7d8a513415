-- The scopes of a node are those that run: each with the rows that are listed, and the links over
-- which it is shared.
use Rattle.std.specs.Prelude.{◌≡◌, ℕ, Bool, cond, nat_eq, List, [], ◌∷◌, ◌++◌, Option, map}
use Rattle.std.specs.Prelude.{position}
use Rattle.std.specs.List.{list_any, AllByRecursion}
use Rattle.dist_types.specs.declared.pid.Pid.{Pid}
use Rattle.dist_types.specs.Listing.{same, Rises}
use Rattle.dist_types.specs.Order.{text_cmp}
use Rattle.scope_core.specs.Table.{count_of}
use Rattle.policy_audit.specs.History.{History}
use Rattle.policy_audit.specs.Own.{running_scopes}
use Rattle.policy_audit.specs.Hearing.{heard, told}
use Rattle.policy_audit.specs.Listed.{listed}
use Rattle.node_core.specs.declared.running.Running.{Running}

-- whether the number is one of these
abbrev pub is_number : ℕ → List ℕ → Bool
is_number n ns = list_any (nat_eq n) ns

-- the number among these, where it isn't yet
abbrev pub with_number : ℕ → List ℕ → List ℕ
with_number n ns = cond (is_number n ns) ns (ns ++ n ∷ [])

-- the place of this scope
abbrev pub scope_place : List ℕ → List Running → Option ℕ
scope_place s scopes = position (λ r. same r.scope s) scopes

-- scopes in the order of their names, each once
abbrev pub AreAscending : List Running → Type 0
AreAscending scopes = Rises text_cmp (map (λ r. r.scope) scopes)

-- what the policy's words say of scopes
pub record ScopeWords : Type 0 where
  pub own : List ℕ
  pub running : List (List ℕ)
  pub listed : List ℕ → List ℕ → Pid → ℕ
  pub heard : ℕ → List ℕ → Bool
  pub told : ℕ → List ℕ → Bool

-- these words after a history
abbrev pub scope_words : History → ScopeWords
scope_words h = record {
  own = h.opening.name;
  running = running_scopes h;
  listed = listed h;
  heard = λ l s. heard h.opening l s h.entries;
  told = λ l s. told h.opening l s h.entries;
}

-- a scope with its rows, and the links whose peers are heard and told in it
pub record IsRunningOf (w : ScopeWords) (r : Running) : Type 0 where
  pub own : r.table.own ≡ w.own
  pub rows : (g : List ℕ) (p : Pid) → count_of r.table g p ≡ w.listed r.scope g p
  pub heard : (l : ℕ) → is_number l r.heard.items ≡ w.heard l r.scope
  pub told : (l : ℕ) → is_number l r.told.items ≡ w.told l r.scope

-- the scopes are those that run, ascending
pub record ScopesFollow (w : ScopeWords) (scopes : List Running) : Type 0 where
  pub running : map (λ r. r.scope) scopes ≡ w.running
  pub each : AllByRecursion (IsRunningOf w) scopes
