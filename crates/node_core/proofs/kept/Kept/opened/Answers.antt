use Rattle.node_core.proofs
use proofs.Words.{arith, kept_links, le-ltb, length, refl, Rule, ◌<◌, ◌∙◌}
use proofs.Answering.{accepts, refuses}
use proofs.Openings.{kept_are, opened_now}
use proofs.kept.Kept.opened.Goals as goal

pub returns-then-len-ge-MAX_LINKS : goal.returns-then-len-ge-MAX_LINKS
returns-then-len-ge-MAX_LINKS g c =
    let is = kept_are g.call.past c.args.self.now.links.items c.requires.0.keeps.follows.links in
    refuses c.requires.0 _ Rule.LinksFull
    (rw (le-ltb (kept_links g.call.past) 64 (omega arith))) refl

pub returns : goal.returns
returns g c =
    let few : length c.args.self.now.links.items < 64 = omega arith in
    accepts c.requires.0 _ _ refl _ _ _ c.linked.ensures refl
    (rw (
      c.push_reserved.ensures.items,
      c.in_ok-reserve.ensures.items,
      c.new-2.ensures,
      c.new-waiting.ensures.items,
      c.requires.1,
    )
    (opened_now c.requires.0.keeps.follows g.call.seat c.args.challenge c.requires.0.space few _ _
    (c.new-state.ensures ∙ c.new.ensures)))
