use Rattle.node_core.proofs
use proofs.Words.{checks, early_checks, Event, first_broken, frame_taken, refl, Rule, scope_in}
use proofs.Words.{Some, sym, ◌∙◌, ◌≡◌}
use Rattle.policy_audit.specs.Sides.{is_visible}
use Rattle.node_core.specs.Messages.{refusal}
use proofs.Answering.{refuses}
use proofs.MessagePlaces.{runs_here, scope_here, stopped_here, up_here}
use proofs.MessageScopes.{heard_there}
use proofs.MessageRefused.{calm, early_broken, frame_unread, hidden_first, refusal_is}
use proofs.MessageRefused.{refusal_silent, says_broken, stopped_first, taken_is, up_awaits}
use proofs.MessageRefused.{visible_is}
use Rattle.node_core.proofs.kept.Kept.message.Given.{Over}
use proofs.Searched.{scopes_ascend}
use Rattle.node_core.proofs.kept.Kept.message.Goals.{After-is_shown, After-refusal, In-Ok}
use Rattle.node_core.proofs.kept.Kept.message.Goals as goal

-- the body says this on its link
says : (g : Over) (c : In-Ok g)
    → frame_taken g.call.past.opening c.args.number g.call.past.entries c.args.body.now
    ≡ Some c.in-Ok.message
says g c =
    sym (taken_is (up_here c.requires.link.called.keeps.follows c.args.number c.requires.up
    c.requires.link.here c.index.ensures) c.args.body.now)
    ∙ rw c.as_slice.ensures at c.in-Ok.ensures

-- a rule that the message breaks early is the frame's
breaks : (g : Over) (c : In-Ok g) (r : Rule)
    → first_broken (early_checks g.call.past c.args.number c.in-Ok.message) ≡ Some r
    → first_broken (checks g.call.past g.call.seat (Event.Frame c.args.number c.args.body.now))
    ≡ Some r
breaks g c r q =
    says_broken g.call.past g.call.seat c.args.number c.args.body.now c.in-Ok.message r
    c.requires.up (up_awaits g.call.past c.args.number c.requires.up) (says g c)
    (early_broken g.call.past c.args.number c.in-Ok.message r q)

-- the link at its place is up, and tells whether it is visible
shown : (g : Over) (c : After-is_shown g) → c.is_shown.result ≡ is_visible g.call.past c.args.number
shown g c = c.is_shown.ensures
    ∙ visible_is (up_here c.requires.link.called.keeps.follows c.args.number c.requires.up
    c.requires.link.here c.index-2.ensures)

-- the first rule that is broken early is the one that `refusal` finds
early : (g : Over) (c : After-refusal g)
    → first_broken (early_checks g.call.past c.args.number c.in-Ok.message)
    ≡ refusal c.index-3.result.now c.index-4.result.now.heard.items c.in-Ok.message
early g c =
    let h = g.call.past in
    let t = c.requires.link.called.keeps.follows in
    let s = scope_in c.in-Ok.message in
    let at = sym (rw (c.deref.ensures.value, c.scope_in.ensures) at c.in-Some.ensures) in
    let visible =
    sym (visible_is (up_here t c.args.number c.requires.up c.requires.link.here
    c.index-2.ensures)) ∙ sym c.is_shown.ensures ∙ c.if-not-is_shown.false in
    let there = scope_here t s at c.index-4.ensures in
    refusal_is (up_here t c.args.number c.requires.up c.requires.link.here c.index-3.ensures)
    c.index-4.result.now.heard.items c.in-Ok.message visible
    (runs_here t s c.in-Some.at at)
    (heard_there h s c.index-4.result.now there.named there.running c.args.number)

pub returns-in-Err-BadFrame : goal.returns-in-Err-BadFrame
returns-in-Err-BadFrame g c = refuses c.requires.link.called _ Rule.BadFrame
    (frame_unread g.call.past g.call.seat c.args.number c.args.body.now c.requires.up
    (sym (taken_is (up_here c.requires.link.called.keeps.follows c.args.number c.requires.up
    c.requires.link.here c.index.ensures) c.args.body.now)
    ∙ rw c.as_slice.ensures at (c.in-Err-BadFrame.ensures c.in-Err-BadFrame.field-0-is)))
    (calm g.call.past c.args.number c.args.body.now c.requires.up Rule.BadFrame refl)

pub returns-then-not-is_shown : goal.returns-then-not-is_shown
returns-then-not-is_shown g c =
    let at = goal.at.returns-then-not-is_shown g c in
    refuses c.requires.link.called _ Rule.HiddenLink
    (breaks g at.In-Ok _ (hidden_first g.call.past c.args.number c.in-Ok.message
    (sym (shown g at.After-is_shown) ∙ c.if-not-is_shown.true)))
    (calm g.call.past c.args.number c.args.body.now c.requires.up Rule.HiddenLink refl)

pub returns-in_default : goal.returns-in_default
returns-in_default g c =
    let at = goal.at.returns-in_default g c in
    refuses c.requires.link.called _ Rule.NoScope
    (breaks g at.In-Ok _ (stopped_first g.call.past c.args.number c.in-Ok.message
    (sym (shown g at.After-is_shown) ∙ c.if-not-is_shown.false)
    (stopped_here c.requires.link.called.keeps.follows (scope_in c.in-Ok.message)
    (sym (rw (c.deref.ensures.value, c.scope_in.ensures) at c.in_default.ensures)))))
    (calm g.call.past c.args.number c.args.body.now c.requires.up Rule.NoScope refl)

pub returns-in-Some-refusal : goal.returns-in-Some-refusal
returns-in-Some-refusal g c =
    let at = goal.at.returns-in-Some-refusal g c in
    refuses c.requires.link.called _ c.in-Some-refusal.rule
    (breaks g at.In-Ok _ (early g at.After-refusal ∙ sym c.in-Some-refusal.ensures))
    (calm g.call.past c.args.number c.args.body.now c.requires.up c.in-Some-refusal.rule
    (refusal_silent c.index-3.result.now c.index-4.result.now.heard.items c.in-Ok.message
    c.in-Some-refusal.rule (sym c.in-Some-refusal.ensures)))

pub follow-requires : goal.follow-requires
follow-requires g c = record {
  on = c.requires;
  there = sym (rw (c.scope_in.ensures, c.deref.ensures.value) at c.in-Some.ensures);
  holds = early g (goal.at.follow-requires g c).After-refusal ∙ sym c.in_default-refusal.ensures;
}

pub returns : goal.returns
returns g c = c.follow.ensures c.args.body.now (says g (goal.at.returns g c).In-Ok)

pub place_of-requires : goal.place_of-requires
place_of-requires g c =
    rw c.deref.ensures.value (scopes_ascend c.requires.link.called.keeps.follows)
