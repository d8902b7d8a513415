-- Where the link and the scope of a message are kept.
use Rattle.node_core.proofs
use proofs.Words.{and_parts, ap, arith, AwaitMessage, awaits, cond, facts, false, Follows, get_or}
use proofs.Words.{get_or_default, History, is_kept, is_open, is_running, is_some, is_up, is_whole}
use proofs.Words.{IsIntroduced, IsLinkOf, IsRunningOf, IsState, KeptLink, length, lie, link_place}
use proofs.Words.{link_words, Linked, LinkFacts, LinkState, List, None, Parts, position-Some, refl}
use proofs.Words.{Running, same, same_decides, scope_place, scope_words, Some, subst, sym, true}
use proofs.Words.{waiting, ℕ, ◌<◌, ◌∙◌, ◌≡◌}
use proofs.Found.{place_found}
use proofs.Scopes.{runs_is}
use proofs.KeptOn.{each_at, is_kept_at, link_at, not_kept}

-- ---- links

-- the kept link l is up
pub record IsUpHere (h : History) (l : ℕ) (x : KeptLink) : Type 0 where
  pub far : Linked
  pub is : x.state ≡ LinkState.Up far
  pub number : x.number ≡ l
  pub link : IsLinkOf (link_words h) x
  pub awaited : awaits l h.entries ≡ AwaitMessage
  pub introduced : IsIntroduced (facts h l) far.peer far.creation far.visible far.version far.proof

-- an open link whose side is whole is up
up_state : (f : LinkFacts) (s : LinkState) → IsState f s → f.open_now ≡ true → f.whole ≡ true
    → (u : Linked) × (s ≡ LinkState.Up u) × (f.awaited ≡ AwaitMessage)
    × IsIntroduced f u.peer u.creation u.visible u.version u.proof
up_state f (LinkState.Up u) t o w = (u, refl, t.0.awaited, t.1)
up_state f LinkState.Ended t o w = lie (sym o ∙ t)
up_state f s t o w = lie (sym w ∙ t.0.whole)

module _ {h : History} {parts : Parts} (t : Follows h parts) (l : ℕ)
    (up : is_up l h.entries ≡ true) where
  pub up_here : {p : ℕ} {x : KeptLink} → link_place l parts.links ≡ Some p → x
      ≡ get_or parts.links p x → IsUpHere h l x
  up_here {p} {x} q is =
      let at = link_at h t.sound.played parts.links t.links l p x q in
      let here : IsLinkOf (link_words h) x = subst (IsLinkOf (link_words h)) (sym is) at.0 in
      let number : x.number ≡ l = ap (λ y. y.number) is ∙ at.1 in
      let found = up_state (facts h l) x.state
      (subst (λ n. IsState (facts h n) x.state) number here.state)
      (and_parts (is_open l h.entries) (is_whole l h.entries) up).0
      (and_parts (is_open l h.entries) (is_whole l h.entries) up).1 in
      record {
        far = found.0;
        is = found.1;
        number = number;
        link = here;
        awaited = found.2;
        introduced = found.3;
      }

-- ---- scopes

-- the scope s runs, and is at this place
pub record IsScopeHere (h : History) (rs : List Running) (s : List ℕ) (p : ℕ) (r : Running) : Type
    0 where
  pub within : p < length rs
  pub is : r ≡ get_or rs p r
  pub named : r.scope ≡ s
  pub running : IsRunningOf (scope_words h) r

module _ {h : History} {parts : Parts} (t : Follows h parts) (s : List ℕ) where
  pub placed_is : is_some (scope_place s parts.scopes) ≡ is_running h s
  placed_is = place_found (λ r. same r.scope s) parts.scopes ∙ runs_is h parts.scopes s t.scopes

  pub stopped_here : scope_place s parts.scopes ≡ None → is_running h s ≡ false
  stopped_here q = sym placed_is ∙ ap is_some q

  pub runs_here : (p : ℕ) → scope_place s parts.scopes ≡ Some p → is_running h s ≡ true
  runs_here p q = sym placed_is ∙ ap is_some q

  pub scope_here : {p : ℕ} {r : Running} → scope_place s parts.scopes ≡ Some p → r
      ≡ get_or parts.scopes p r → IsScopeHere h parts.scopes s p r
  scope_here {p} {r} q is =
      let place = position-Some (λ x. same x.scope s) parts.scopes p r q in
      record {
        within = place.0;
        is = is;
        named = ap (λ x. x.scope) is ∙ (same_decides (get_or parts.scopes p r).scope s).0 place.1;
        running = subst (IsRunningOf (scope_words h)) (sym is)
            (each_at (IsRunningOf (scope_words h)) parts.scopes p r t.scopes.each place.0);
      }

-- another reading of the same place
pub same_there : {h : History} {rs : List Running} {s : List ℕ} {p : ℕ} {r q : Running}
    → IsScopeHere h rs s p r → q ≡ get_or rs p q → q ≡ r
same_there {rs = rs} {p = p} {r = r} {q = q} there is =
    is ∙ get_or_default rs p q r there.within ∙ sym there.is

-- ---- what waits for a kept link

module _ {h : History} {parts : Parts} (t : Follows h parts) (l : ℕ) where
  pub closed_here : link_place l parts.links ≡ None → is_open l h.entries ≡ false
  closed_here q = grind (arith, not_kept h t.sound.played parts.links t.links l q)

  pub waits_none : link_place l parts.links ≡ None → None
      ≡ cond (is_kept h l) (Some (length (waiting h l))) None
  waits_none q = grind (arith, not_kept h t.sound.played parts.links t.links l q)

  pub waits_some : {p : ℕ} {x : KeptLink} → link_place l parts.links ≡ Some p → x
      ≡ get_or parts.links p x → Some (length x.frames)
      ≡ cond (is_kept h l) (Some (length (waiting h l))) None
  waits_some {p} {x} q is =
      let at = link_at h t.sound.played parts.links t.links l p x q in
      let here : IsLinkOf (link_words h) x = subst (IsLinkOf (link_words h)) (sym is) at.0 in
      grind (
        arith,
        here.frames,
        ap (λ y. y.number) is,
        at.1,
        is_kept_at h t.sound.played parts.links t.links l p q,
      )
