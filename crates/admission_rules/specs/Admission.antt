-- What decides whom a node admits: its cookies (Erlang manual, `erlang:set_cookie`) and the names
-- that it allows (Kernel manual, `net_kernel:allow`).
use Rattle.std.specs.Prelude.{◌≡◌, ℕ, ◌≤◌, ◌⊎◌, Bool, if◌then◌else◌, List, [], length, Option, None, Contains, unwrap_or}
use Rattle.std.specs.Str.{bytes_eq}
use Rattle.std.specs.Map.{lookup}
use Rattle.handshake_frames.specs.Spelling.{IsVersion}
use Rattle.indexmap.specs.IndexMap.{insert_entry}
use Rattle.indexmap.specs.IndexSet.{insert_all}

-- a node, its own cookie, the latest version of link messages that it knows, the cookies of peers,
-- and the names allowed, in order of first allowing
pub record AdmissionRules : Type 0 where
  pub own : List ℕ
  pub cookie : List ℕ
  pub hidden : Bool
  pub creation : ℕ
  pub links : ℕ
  pub peers : List (List ℕ × List ℕ)
  pub allowed : List (List ℕ)

-- how many peers may have a cookie of their own
abbrev pub max_peers : ℕ
max_peers = 1024

-- how many names may be allowed
abbrev pub max_allowed : ℕ
max_allowed = 1024

-- what holds of the own name, the version, the cookies of peers and the allowed names of every
-- admission
pub record IsWithinLimits (own : List ℕ) (links : ℕ) (peers : List (List ℕ × List ℕ))
    (allowed : List (List ℕ)) : Type 0 where
  pub own_apart : lookup (bytes_eq own) peers ≡ None
  pub version : IsVersion links
  pub few_peers : length peers ≤ max_peers
  pub few_allowed : length allowed ≤ max_allowed

-- the cookie of its own that a peer has
abbrev pub peer_cookie : AdmissionRules → List ℕ → Option (List ℕ)
peer_cookie rules node = lookup (bytes_eq node) rules.peers

-- the cookie for a node: a peer's own one, and else the node's
abbrev pub cookie_of : AdmissionRules → List ℕ → List ℕ
cookie_of rules node = if bytes_eq node rules.own then rules.cookie else unwrap_or
    (peer_cookie rules node) rules.cookie

-- the rules with a cookie for a node, which for the own name is the own cookie
abbrev pub with_cookie_for : AdmissionRules → List ℕ → List ℕ → AdmissionRules
with_cookie_for rules node cookie =
    if bytes_eq node rules.own then record rules { cookie = cookie }
    else record rules { peers = insert_entry bytes_eq rules.peers node cookie }

-- the rules with each name of a list that isn't allowed yet, last and once
abbrev pub with_allowed : AdmissionRules → List (List ℕ) → AdmissionRules
with_allowed rules names = record rules { allowed = insert_all bytes_eq rules.allowed names }

-- no name is allowed, so that all are, or this one is
abbrev pub IsAllowed : AdmissionRules → List ℕ → Type 0
IsAllowed rules name = (rules.allowed ≡ []) ⊎ Contains rules.allowed name
