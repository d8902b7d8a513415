use Rattle.node_core.proofs
use proofs.Words.{ap, get_or-set_same, length, refl, Rule, sym, ◌<◌, ◌∙◌}
use proofs.Answering.{accepts, refuses}
use proofs.KeptOn.{link_at, not_kept}
use proofs.Taking.{emptied, taken_now}
use proofs.Searched.{links_in_order}
use proofs.kept.Kept.take.Goals as goal

pub returns-in_default : goal.returns-in_default
returns-in_default g c = refuses c.requires _ Rule.NoSuchLink
    (rw (not_kept g.call.past c.requires.keeps.follows.sound.played c.args.self.now.links.items
    c.requires.keeps.follows.links c.args.number
    (rw c.deref.ensures.value at (sym c.place_of.ensures ∙ c.in_default.is)))) refl

pub returns : goal.returns
returns g c =
    let h = g.call.past in
    let t = c.requires.keeps.follows in
    let links = c.args.self.now.links.items in
    let found = rw c.deref.ensures.value at (sym c.place_of.ensures ∙ c.in-Some.is) in
    let at = link_at h t.sound.played links t.links c.args.number c.in-Some.place
    c.index_mut.result.now found in
    let within : c.in-Some.place < length links = at.2 in
    let handed = c.hand_over-frames.ensures.frames ∙ ap (λ x. x.frames) c.index_mut.ensures.value in
    let new = c.hand_over-frames.ensures.left
    ∙ ap (λ x. emptied x c.hand_over-frames.new.self.room) c.index_mut.ensures.value in
    let same = get_or-set_same links c.in-Some.place c.hand_over-frames.new.self
    c.index_mut.result.now within in
    accepts c.requires _ _ refl _ _ _ (rw c.new-nothing.ensures.items at c.both.ensures) refl
    (rw (c.drop_ended.ensures c.index_mut.result.now)
    (taken_now h g.call.seat c.args.number c.hand_over-frames.result _ t c.in-Some.place
    c.index_mut.result.now found c.requires.space handed c.hand_over-frames.new.self _
    c.hand_over-frames.new.self.room new same))

pub place_of-requires : goal.place_of-requires
place_of-requires g c = rw c.deref.ensures.value (links_in_order c.requires.keeps.follows)
