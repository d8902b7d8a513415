-- Cookies and allowed names after the events that set them.
use Rattle.node_core.proofs
use proofs.Words.{admission_words, AdmissionFollows, AdmissionRules, allow_list, ap, arith, Bool}
use proofs.Words.{bytes_eq, cond, cookie, cookie_of, cookie_peers, CoreFault, different, Event}
use proofs.Words.{false, History, insert_entry, IsCalmFault, IsCookieRefusal, le-leb, length}
use proofs.Words.{length-map, lie, List, lt-leb, max_peers, nat_le, refl, Reply, same, same_decides}
use proofs.Words.{Some, sym, true, with_allowed, with_cookie_for, ℕ, ◌++◌, ◌<◌, ◌||◌, ◌∙◌, ◌∷◌, ◌≡◌}
use proofs.Words.{◌≤◌}
use Rattle.std.specs.Map.{lookup}
use Rattle.admission_rules.proofs.Peers.{lookup_kept, lookup_put}
use proofs.Calm.{answered}
use proofs.Once.{all_once, entry_once, how_many_names, names_of}

module _ (h : History) (rules : AdmissionRules)
    (t : AdmissionFollows (admission_words h) rules) where
  -- the cookie for a name is the policy's
  pub cookie_is : (n : List ℕ) → cookie_of rules n ≡ cookie h n
  cookie_is n = grind (arith, t.own, t.own_cookie, t.cookie n)

  -- ---- the limits

  pub names_counted : (ns : List (List ℕ))
      → length (with_allowed rules ns).allowed ≡ different (ns ++ allow_list h)
  names_counted ns =
      how_many_names (with_allowed rules ns).allowed (ns ++ allow_list h)
      (all_once ns rules.allowed (allow_list h) t.allowed)

  peers_counted : (n c : List ℕ)
      → length (insert_entry bytes_eq rules.peers n c) ≡ different (n ∷ cookie_peers h)
  peers_counted n c = sym (length-map (insert_entry bytes_eq rules.peers n c) (λ p. p.0))
      ∙ how_many_names (names_of (insert_entry bytes_eq rules.peers n c)) (n ∷ cookie_peers h)
      (entry_once n c rules.peers (cookie_peers h) t.peers)

  peers_full : (n c : List ℕ) → length rules.peers ≤ max_peers
      → max_peers < length (with_cookie_for rules n c).peers
      → (same n h.opening.name || nat_le (different (n ∷ cookie_peers h)) 1024) ≡ false
  peers_full n c few over =
      grind (arith, t.own, peers_counted n c, lt-leb (different (n ∷ cookie_peers h)) 1024)

  pub peers_fit : (n c : List ℕ) → length (with_cookie_for rules n c).peers ≤ max_peers
      → (same n h.opening.name || nat_le (different (n ∷ cookie_peers h)) 1024) ≡ true
  peers_fit n c few = grind (
    arith,
    t.own,
    peers_counted n c,
    le-leb (different (n ∷ cookie_peers h)) 1024,
  )

  -- what is refused is the first rule that is broken
  pub cookie_calm : (seat : ℕ) (n c : List ℕ) (f : CoreFault)
      → IsCookieRefusal rules (with_cookie_for rules n c) f
      → IsCalmFault h seat (Event.SetCookieFor n c) f
  cookie_calm seat n c (CoreFault.Refused r) q = (
    grind (arith, peers_full n c q.1 q.2, q.0),
    refl,
  )
  cookie_calm seat n c CoreFault.OutOfMemory q = tt

  module _ (seat : ℕ) (r : Reply) where
    pub cookie_follows : (c : List ℕ)
        → AdmissionFollows (admission_words (answered h seat (Event.SetCookie c) r))
        (record rules { cookie = c })
    cookie_follows c = search refl

    pub names_follow : (ns : List (List ℕ))
        → AdmissionFollows (admission_words (answered h seat (Event.Allow ns) r))
        (with_allowed rules ns)
    names_follow ns = search (all_once ns rules.allowed (allow_list h) t.allowed)

    -- a cookie for another node is kept for that node alone
    peer : (n c m : List ℕ) (a : Bool) → same n m ≡ a
        → lookup (bytes_eq m) (insert_entry bytes_eq rules.peers n c)
        ≡ cond a (Some c) (lookup (bytes_eq m) rules.peers)
    peer n c m true f =
        ap (λ x. lookup (bytes_eq x) (insert_entry bytes_eq rules.peers n c))
        (sym ((same_decides n m).0 f)) ∙ lookup_put rules.peers n c
    peer n c m false f =
        lookup_kept rules.peers n c m (λ q. lie (sym ((same_decides n m).1 (sym q)) ∙ f))

    pub cookie_for_follows : (n c : List ℕ)
        → AdmissionFollows (admission_words (answered h seat (Event.SetCookieFor n c) r))
        (with_cookie_for rules n c)
    cookie_for_follows n c = record {
      own = grind (arith, t.own);
      hidden = grind (arith, t.hidden);
      creation = grind (arith, t.creation);
      links = grind (arith, t.links);
      own_cookie = grind (arith, t.own, t.own_cookie);
      cookie = λ m. grind (
        arith,
        t.own,
        t.cookie m,
        peer n c m (same n m) refl,
        same_decides n m,
        same_decides n h.opening.name,
        same_decides m h.opening.name,
      );
      peers = λ q. grind (
        arith,
        t.own,
        t.peers q,
        entry_once n c rules.peers (cookie_peers h) t.peers q,
      );
      allowed = λ q. grind (arith, t.allowed q);
    }
