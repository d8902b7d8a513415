-- The cookies of peers after one is put.
use Rattle.std.proofs.Common.{arith, false, is_some, length, List, refl, Some, true, ℕ, [], ◌+◌}
use Rattle.std.proofs.Common.{◌∷◌, ◌≡◌, ◌≢◌}
use Rattle.std.specs.Str.{bytes_eq}
use Rattle.std.proofs.lemmas.Bool.{false_from_ne_true}
use Rattle.std.proofs.lemmas.Slice.Eq.{bytes_eq-Decides}
use Rattle.std.specs.Map.{lookup}
use Rattle.indexmap.specs.IndexMap.{insert_entry}
use Rattle.admission_rules.specs.Admission.{AdmissionRules, cookie_of, peer_cookie, with_cookie_for}

-- a peer without a cookie of its own makes one more
length_put : (peers : List (List ℕ × List ℕ)) (node cookie : List ℕ)
    → is_some (lookup (bytes_eq node) peers) ≡ false
    → length (insert_entry bytes_eq peers node cookie) ≡ length peers + 1
length_put [] node cookie none = refl
length_put (peer ∷ peers) node cookie none = grind (arith, length_put peers node cookie)

-- so it does among the rules, which are those inside
pub more_peers : (inside rules : AdmissionRules) (node cookie : List ℕ) → inside ≡ rules
    → bytes_eq node inside.own ≡ false
    → is_some (lookup (bytes_eq node) inside.peers) ≡ false
    → length (with_cookie_for rules node cookie).peers ≡ length inside.peers + 1
more_peers inside rules node cookie is other absent =
    rw (← is, other) (length_put inside.peers node cookie absent)

same : (node : List ℕ) → bytes_eq node node ≡ true
same node = (bytes_eq-Decides node node).1 refl

differ : (node other : List ℕ) → node ≢ other → bytes_eq node other ≡ false
differ node other apart = false_from_ne_true (bytes_eq node other)
    (λ yes. apart ((bytes_eq-Decides node other).0 yes))

-- the peer has the cookie that was put
pub lookup_put : (peers : List (List ℕ × List ℕ)) (node cookie : List ℕ)
    → lookup (bytes_eq node) (insert_entry bytes_eq peers node cookie) ≡ Some cookie
lookup_put [] node cookie = grind (arith, same node)
lookup_put (peer ∷ peers) node cookie = grind (arith, lookup_put peers node cookie)

-- and each other peer has what it had
pub lookup_kept : (peers : List (List ℕ × List ℕ)) (node cookie other : List ℕ) → other ≢ node
    → lookup (bytes_eq other) (insert_entry bytes_eq peers node cookie) ≡ lookup (bytes_eq other)
    peers
lookup_kept [] node cookie other apart = grind (arith, differ other node apart)
lookup_kept (peer ∷ peers) node cookie other apart =
    grind (
      arith,
      lookup_kept peers node cookie other apart,
      differ other node apart,
      bytes_eq-Decides node peer.0,
      bytes_eq-Decides other peer.0,
    )

-- so the rules give the cookie that was set
pub cookie_set : (rules : AdmissionRules) (node cookie : List ℕ)
    → cookie_of (with_cookie_for rules node cookie) node ≡ cookie
cookie_set rules node cookie = grind (arith, lookup_put rules.peers node cookie)

-- and keep that of each node but the peer that one was set for
pub cookie_kept : (rules : AdmissionRules) (node cookie other : List ℕ) → node ≢ rules.own
    → other ≢ node
    → cookie_of (with_cookie_for rules node cookie) other ≡ cookie_of rules other
cookie_kept rules node cookie other peer apart =
    grind (arith, differ node rules.own peer, lookup_kept rules.peers node cookie other apart)

-- and all cookies of peers where the own one was set
pub peers_kept : (rules : AdmissionRules) (cookie other : List ℕ)
    → peer_cookie (with_cookie_for rules rules.own cookie) other ≡ peer_cookie rules other
peers_kept rules cookie other = rw (same rules.own) refl
