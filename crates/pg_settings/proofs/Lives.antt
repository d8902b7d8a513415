-- The next life holds what the last one did.
use Rattle.pg_settings.proofs
use Rattle.pg_settings.specs
use Rattle.std.proofs.Common.{append-nil, ap, arith, flat_map, List, map, None, Option, refl, ℕ}
use Rattle.std.proofs.Common.{◌++◌, ◌∙◌, ◌≡◌, ◌≤◌}
use Rattle.dist_types.specs.Listing.{occurrences, same}
use Rattle.dist_types.proofs.Orders.{same_decides}
use Rattle.admission_rules.specs.Admission.{AdmissionRules, peer_cookie}
use Rattle.policy_audit.specs.declared.event.Event.{Event}
use Rattle.policy_audit.specs.declared.event.Event.TheVariants as event
use Rattle.policy_audit.specs.Admission.{allow_list, cookie_set_for, names_allowed, own_cookie}
use Rattle.policy_audit.specs.Admission.{own_cookie_set}
use Rattle.policy_audit.specs.History.{events, first_of, History}
use Rattle.policy_audit.specs.Own.{is_running, running_scopes, starts}
use Rattle.policy_audit.proofs.ScopesNow.{running_among}
use Rattle.node_core.specs.AdmissionFacts.{admission_words, AdmissionFollows}
use specs.Settings.{all_told, cookies_told, HoldsAlike, IsToldJust, names_told, own_told}
use specs.Settings.{scopes_told}
use proofs.Renewed.{allowed_both, allows_none, among_once, last_all, last_cookie, last_names}
use proofs.Renewed.{last_none, last_of, last_own, last_scope, names_among, none_once, or_else}
use proofs.Renewed.{own_allows}

module _ (h next : History) (begun : List ℕ) (rules : AdmissionRules)
    (follows : AdmissionFollows (admission_words h) rules)
    (told : IsToldJust h.opening.name begun (all_told begun rules (running_scopes h)) next) where
  -- what the next life finds is what it was told last
  said : {B : Type 0} (f : Event → Option B) → ((ns : List (List ℕ)) → f (event.Allow ns) ≡ None)
      → first_of f (events next.entries)
      ≡ or_else (last_of f (scopes_told (running_scopes h)))
      (or_else (last_of f (cookies_told rules.peers)) (last_of f (own_told begun rules.cookie)))
  said f none =
      ap (first_of f) told.accepted
      ∙ last_all f (own_told begun rules.cookie) (cookies_told rules.peers)
      (names_told rules.allowed) (scopes_told (running_scopes h))
      ∙ grind (arith, last_names f none rules.allowed)

  once : (n : List ℕ) → occurrences same n (map (λ p. p.0) rules.peers) ≤ 1
  once n = grind (arith, follows.peers n)

  own_is : own_cookie next ≡ own_cookie h
  own_is =
      let own = h.opening.name in
      let f = own_cookie_set own in
      grind (
        arith,
        told.own,
        told.opened,
        said f (λ ns. refl),
        last_none f event.StartScope (λ s. refl) (running_scopes h),
        last_cookie own f (λ p. refl) rules.peers (once own),
        follows.cookie own,
        follows.own_cookie,
        same_decides own own,
        last_own f begun rules.cookie,
        same_decides rules.cookie begun,
      )

  cookies_are : (n : List ℕ)
      → first_of (cookie_set_for n) (events next.entries) ≡ peer_cookie rules n
  cookies_are n =
      let f = cookie_set_for n in
      said f (λ ns. refl) ∙ grind (
        arith,
        last_none f event.StartScope (λ s. refl) (running_scopes h),
        last_cookie n f (λ p. refl) rules.peers (once n),
        last_own f begun rules.cookie,
      )

  names_are : allow_list next ≡ rules.allowed
  names_are =
      ap (λ es. flat_map names_allowed es) told.accepted
      ∙ allowed_both (own_told begun rules.cookie ++ cookies_told rules.peers
      ++ names_told rules.allowed) (scopes_told (running_scopes h))
      ∙ grind (
        arith,
        allows_none event.StartScope (λ s. refl) (running_scopes h),
        allowed_both (own_told begun rules.cookie ++ cookies_told rules.peers)
            (names_told rules.allowed),
        allowed_both (own_told begun rules.cookie) (cookies_told rules.peers),
        allows_none (λ (p : List ℕ × List ℕ). event.SetCookieFor p.0 p.1) (λ p. refl) rules.peers,
        own_allows begun rules.cookie,
        names_among rules.allowed,
        append-nil rules.allowed,
      )

  runs : (s : List ℕ) → is_running next s ≡ is_running h s
  runs s =
      let f = starts s in
      grind (
        arith,
        said f (λ ns. refl),
        last_scope s (running_scopes h),
        last_none f (λ (p : List ℕ × List ℕ). event.SetCookieFor p.0 p.1) (λ p. refl) rules.peers,
        last_own f begun rules.cookie,
        running_among h s,
      )

  pub holds : HoldsAlike h next
  holds = record {
    cookies = λ n. grind (arith, told.own, own_is, cookies_are n, follows.cookie n);
    names = λ n. grind (
      arith,
      names_are,
      among_once rules.allowed (allow_list h) follows.allowed n,
      none_once rules.allowed (allow_list h) follows.allowed,
    );
    scopes = runs;
  }
