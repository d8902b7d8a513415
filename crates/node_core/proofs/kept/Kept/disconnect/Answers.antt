use Rattle.node_core.proofs
use proofs.Words.{ap, false, get_or_default, is_some, length, option_map_or, position-Some, refl}
use proofs.Words.{Rule, same, sym, up_peer, ◌<◌, ◌∙◌}
use proofs.Answering.{accepts, refuses}
use proofs.Found.{place_found}
use proofs.LinkTests.{up_is}
use proofs.Losing.{parted}
use proofs.kept.Kept.disconnect.Goals as goal

pub returns-in_default : goal.returns-in_default
returns-in_default g c =
    let t = c.requires.keeps.follows in
    let none = rw c.deref.ensures.value at (sym c.place_of_up.ensures ∙ c.in_default.is) in
    refuses c.requires _ Rule.NoLinkTo
    (rw (sym (up_is g.call.past c.args.peer.now t.sound.played c.args.self.now.links.items t.links)
    ∙ sym (place_found (λ x. option_map_or (λ m. same m c.args.peer.now) (up_peer x.state) false)
    c.args.self.now.links.items) ∙ ap is_some none)) refl

pub returns : goal.returns
returns g c =
    let h = g.call.past in
    let t = c.requires.keeps.follows in
    let links = c.args.self.now.links.items in
    let peer = c.args.peer.now in
    let found = rw c.deref.ensures.value at (sym c.place_of_up.ensures ∙ c.in-Some.is) in
    let at = position-Some (λ x. option_map_or (λ m. same m peer) (up_peer x.state) false) links
    c.in-Some.place c.index.result.now found in
    let within : c.in-Some.place < length links = at.0 in
    let lost = rw (
      c.deref-2.ensures.value,
      c.index-2.ensures
          ∙ get_or_default links c.in-Some.place c.index-2.result.now c.index.result.now within,
    ) at c.in_ok-changes.ensures in
    let cuts = rw (c.index-3.ensures
    ∙ get_or_default links c.in-Some.place c.index-3.result.now c.index.result.now within)
    at c.cut_link.ensures in
    let number = c.number-number.ensures ∙ ap (λ x. x.number) c.index.ensures in
    accepts c.requires _ _ refl _ _ _ c.changed.ensures refl (rw c.remove.ensures
    (parted h g.call.seat peer c.in_ok-changes.changes.items _ t c.in-Some.place c.index.result.now
    found c.requires.space lost c.cut_link.new.scopes.items c.number-number.result number cuts))
