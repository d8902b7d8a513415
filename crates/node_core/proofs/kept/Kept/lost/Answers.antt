use Rattle.node_core.proofs
use proofs.Words.{get_or_default, length, refl, Rule, sym, ◌<◌, ◌∙◌}
use proofs.Answering.{accepts, refuses}
use proofs.KeptOn.{link_at, not_kept}
use proofs.Losing.{lost}
use proofs.Searched.{links_in_order}
use proofs.kept.Kept.lost.Goals as goal

pub returns-in_default : goal.returns-in_default
returns-in_default g c = refuses c.requires _ Rule.NoSuchLink
    (rw (not_kept g.call.past c.requires.keeps.follows.sound.played c.args.self.now.links.items
    c.requires.keeps.follows.links c.args.number
    (rw c.deref.ensures.value at (sym c.place_of.ensures ∙ c.in_default.is)))) refl

pub returns : goal.returns
returns g c =
    let h = g.call.past in
    let t = c.requires.keeps.follows in
    let links = c.args.self.now.links.items in
    let found = rw c.deref.ensures.value at (sym c.place_of.ensures ∙ c.in-Some.is) in
    let at = link_at h t.sound.played links t.links c.args.number c.in-Some.place c.index.result.now
    found in
    let within : c.in-Some.place < length links = at.2 in
    let gone = rw (c.deref-2.ensures.value, c.index.ensures) at c.in_ok-changes.ensures in
    let cuts = rw (c.index-2.ensures
    ∙ get_or_default links c.in-Some.place c.index-2.result.now c.index.result.now within)
    at c.cut_link.ensures in
    accepts c.requires _ _ refl _ _ _ c.changed.ensures refl
    (rw c.remove.ensures
    (lost h g.call.seat c.args.number c.in_ok-changes.changes.items _ t c.in-Some.place
    c.index.result.now found c.requires.space gone c.cut_link.new.scopes.items cuts))

pub place_of-requires : goal.place_of-requires
place_of-requires g c = rw c.deref.ensures.value (links_in_order c.requires.keeps.follows)
