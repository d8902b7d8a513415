use Rattle.node_core.proofs
use proofs.Words.{ap, false, in_state, length, LinkState, moved_on, narrow_frames, refl, sym, true}
use proofs.Words.{◌==◌, ◌∙◌, ◌≡◌}
use proofs.MovedOn.{none_is_empty, put_where, stated}
use Rattle.node_core.proofs.handshaking.end.Goals.{After-owe_bodies}
use Rattle.node_core.proofs.handshaking.end.Goals as goal

owed : (c : After-owe_bodies)
    → c.owe_bodies.new.self ≡ moved_on LinkState.Ended (narrow_frames c.args.frames)
    c.owe_bodies.new.self.room (in_state LinkState.Ended c.args.link)
owed c = stated (narrow_frames c.args.frames) c.in_state-link.ensures c.requires.ready.idle
    c.owe_bodies.ensures.owed

pub returns-then-is_empty : goal.returns-then-is_empty
returns-then-is_empty c =
    put_where c.args.link c.args.links.now.items c.args.place c.owe_bodies.new.self c.args.frames
    (owed (goal.at.returns-then-is_empty c).After-owe_bodies) true
    (none_is_empty c.owe_bodies.new.self.frames true
    (sym c.if-is_empty.true ∙ c.is_empty.ensures ∙ ap (λ fs. length fs == 0) c.frames.ensures))
    _ refl

pub returns-else-is_empty : goal.returns-else-is_empty
returns-else-is_empty c =
    put_where c.args.link c.args.links.now.items c.args.place c.owe_bodies.new.self c.args.frames
    (owed (goal.at.returns-else-is_empty c).After-owe_bodies) false
    (none_is_empty c.owe_bodies.new.self.frames false
    (sym c.if-is_empty.false ∙ c.is_empty.ensures ∙ ap (λ fs. length fs == 0) c.frames.ensures))
    _ c.put.ensures
