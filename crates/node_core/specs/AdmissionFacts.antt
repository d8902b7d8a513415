-- The cookies and allowed names of a node are those of its history.
use Rattle.std.specs.Prelude.{◌≡◌, ℕ, ◌<◌, ◌≤◌, Bool, cond, List, Option, None, map, length}
use Rattle.dist_types.specs.Listing.{same, is_among, occurrences}
use Rattle.admission_rules.specs.Admission.{AdmissionRules, peer_cookie, max_peers}
use Rattle.policy_audit.specs.declared.rule.Rule.TheVariants as rule
use Rattle.policy_audit.specs.History.{History, creation, events, first_of}
use Rattle.policy_audit.specs.Admission.{own_cookie, cookie_set_for, cookie_peers, allow_list}
use Rattle.node_core.specs.declared.fault.CoreFault.{CoreFault}
use Rattle.node_core.specs.declared.fault.CoreFault.TheVariants as faults

-- what the policy's words say of admission
pub record AdmissionWords : Type 0 where
  pub own : List ℕ
  pub hidden : Bool
  pub creation : ℕ
  pub links : ℕ
  pub own_cookie : List ℕ
  pub cookie_set : List ℕ → Option (List ℕ)
  pub peers : List (List ℕ)
  pub allowed : List (List ℕ)

-- these words after a history
abbrev pub admission_words : History → AdmissionWords
admission_words h = record {
  own = h.opening.name;
  hidden = h.opening.hidden;
  creation = creation h;
  links = h.opening.links;
  own_cookie = own_cookie h;
  cookie_set = λ n. first_of (cookie_set_for n) (events h.entries);
  peers = cookie_peers h;
  allowed = allow_list h;
}

-- the names are those, each once
abbrev pub AreOnce : List (List ℕ) → List (List ℕ) → Type 0
AreOnce names those = (n : List ℕ) → occurrences same n names ≡ cond (is_among n those) 1 0

-- the admission of the node: a peer's cookie and an allowed name are kept once each
pub record AdmissionFollows (w : AdmissionWords) (rules : AdmissionRules) : Type 0 where
  pub own : rules.own ≡ w.own
  pub hidden : rules.hidden ≡ w.hidden
  pub creation : rules.creation ≡ w.creation
  pub links : rules.links ≡ w.links
  pub own_cookie : rules.cookie ≡ w.own_cookie
  pub cookie : (n : List ℕ) → peer_cookie rules n ≡ cond (same n w.own) None (w.cookie_set n)
  pub peers : AreOnce (map (λ p. p.0) rules.peers) w.peers
  pub allowed : AreOnce rules.allowed w.allowed

-- why a cookie for a peer is refused
abbrev pub IsCookieRefusal : (old after : AdmissionRules) → CoreFault → Type 0
IsCookieRefusal old after (faults.Refused r) = (r ≡ rule.CookiesFull)
    × (length old.peers ≤ max_peers) × (max_peers < length after.peers)
IsCookieRefusal old after faults.OutOfMemory = Unit {0}
