use Rattle.node_core.proofs
use proofs.Words.{ap, arith, cond, dial_checks, dialled_peer, false, first_broken, is_some, le-ltb}
use proofs.Words.{length, list_any, lt-ltb, nat_lt, None, not, option_map_or, refl, Rule, same}
use proofs.Words.{Some, sym, true, up_peer, ◌∙◌, ◌≡◌}
use Rattle.link_states.proofs.AllowedLemmas.{allowed_is}
use proofs.Openings.{kept_are}
use proofs.LinkTests.{allowed_by, dial_by, dialling_is, up_is}
use proofs.Found.{place_found}
use Rattle.node_core.proofs.kept.Kept.dial_refusal.Given.{Over}
use Rattle.node_core.proofs.kept.Kept.dial_refusal.Goals.{After-place_of_up}
use Rattle.node_core.proofs.kept.Kept.dial_refusal.Goals as goal

-- the rules that are left where the peer is another one that is allowed
left : (g : Over) (c : After-place_of_up g)
    → first_broken (dial_checks g.past c.args.peer.now)
    ≡ cond (is_some c.place_of_up.result) (Some Rule.LinkUp)
    (cond (list_any (λ x. option_map_or (λ n. same n c.args.peer.now) (dialled_peer x.state) false)
    c.args.self.now.links.items) (Some Rule.LinkPending)
    (cond (not (nat_lt (length c.args.self.now.links.items) 64)) (Some Rule.LinksFull) None))
left g c =
    let t = c.requires.follows in
    let peer = c.args.peer.now in
    let links = c.args.self.now.links.items in
    let granted = sym (allowed_by g.past c.args.self.now.admission t.admission peer)
    ∙ sym (allowed_is c.is_allowed.result c.args.self.now.admission peer
    (rw c.as_bytes.ensures.value at c.is_allowed.ensures)) in
    let up = sym (up_is g.past peer t.sound.played links t.links)
    ∙ sym (place_found (λ x. option_map_or (λ n. same n peer) (up_peer x.state) false) links)
    ∙ sym (ap is_some (rw c.deref.ensures.value at c.place_of_up.ensures)) in
    dial_by g.past peer false true _ _ _ (ap (λ o. same peer o.name) (sym c.requires.opening)
    ∙ sym c.if-eq.ensures) (granted ∙ c.if-not-is_allowed.false) up
    (sym (dialling_is g.past peer t.sound.played links t.links))
    (ap (λ n. nat_lt n 64) (kept_are g.past links t.links))

pub returns-then-not-is_allowed : goal.returns-then-not-is_allowed
returns-then-not-is_allowed g c =
    sym (dial_by g.past c.args.peer.now false false _ _ _
    (ap (λ o. same c.args.peer.now o.name) (sym c.requires.opening) ∙ sym c.if-eq.ensures)
    (sym (allowed_by g.past c.args.self.now.admission c.requires.follows.admission c.args.peer.now)
    ∙ sym (allowed_is c.is_allowed.result c.args.self.now.admission c.args.peer.now
    (rw c.as_bytes.ensures.value at c.is_allowed.ensures)) ∙ c.if-not-is_allowed.true) refl refl
    refl)

pub returns-then-is_some : goal.returns-then-is_some
returns-then-is_some g c =
    sym (left g (goal.at.returns-then-is_some g c).After-place_of_up
    ∙ rw (← c.if-is_some.ensures) refl)

pub returns-then-is_dialling : goal.returns-then-is_dialling
returns-then-is_dialling g c =
    sym (left g (goal.at.returns-then-is_dialling g c).After-place_of_up
    ∙ rw (← c.if-is_some.ensures, ← (rw c.deref-2.ensures.value at c.if-is_dialling.ensures)) refl)

pub returns-then-len-ge-MAX_LINKS : goal.returns-then-len-ge-MAX_LINKS
returns-then-len-ge-MAX_LINKS g c =
    sym (left g (goal.at.returns-then-len-ge-MAX_LINKS g c).After-place_of_up
    ∙ rw (
      ← c.if-is_some.ensures,
      ← (rw c.deref-2.ensures.value at c.if-is_dialling.ensures),
      le-ltb (length c.args.self.now.links.items) 64 (omega arith),
    ) refl)

pub returns : goal.returns
returns g c = sym (left g (goal.at.returns g c).After-place_of_up
    ∙ rw (
      ← c.if-is_some.ensures,
      ← (rw c.deref-2.ensures.value at c.if-is_dialling.ensures),
      lt-ltb (length c.args.self.now.links.items) 64 (omega arith),
    ) refl)
