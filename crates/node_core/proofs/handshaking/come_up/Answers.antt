use Rattle.node_core.proofs
use proofs.Words.{cond, in_state, LinkState, moved_on, narrow_frames, None, older_of, refl, Some}
use proofs.Words.{sym, [], ◌++◌, ◌∙◌, ◌≡◌}
use proofs.MovedOn.{put_in}
use Rattle.node_core.proofs.handshaking.come_up.Goals.{After-put}
use Rattle.node_core.proofs.handshaking.come_up.Goals as goal

owed : (c : After-put) → c.owe_all.new.link
    ≡ moved_on (LinkState.Up c.args.up)
    (narrow_frames c.args.frames ++ cond c.args.up.visible c.args.discovers.items [])
    c.owe_all.new.link.room (in_state (LinkState.Up c.args.up) c.args.link)
owed c =
    c.owe_all.ensures ∙ λ i. moved_on (c.in_state-link.ensures i).state
    (narrow_frames c.args.frames ++ cond (c.visible-visible.ensures i) c.args.discovers.items [])
    c.owe_all.new.link.room (c.in_state-link.ensures i)

older : (c : After-put) → c.older_of-older.result
    ≡ older_of c.args.up.peer c.args.links.now.items
older c = c.older_of-older.ensures ∙ λ i. older_of (c.peer.ensures i) (c.deref.ensures.value i)

pub returns-in-Some : goal.returns-in-Some
returns-in-Some c =
    let before = (goal.at.returns-in-Some c).After-put in
    put_in c.args.link c.args.links.now.items c.args.place c.owe_all.new.link
    (LinkState.Up c.args.up)
    (narrow_frames c.args.frames ++ cond c.args.up.visible c.args.discovers.items [])
    (owed before) c.put.new.links.items c.remove.new.links.items c.put.ensures
    (Some c.in-Some.number) _ (sym c.in-Some.is ∙ older before) c.remove.ensures

pub returns-in_default : goal.returns-in_default
returns-in_default c =
    let before = (goal.at.returns-in_default c).After-put in
    put_in c.args.link c.args.links.now.items c.args.place c.owe_all.new.link
    (LinkState.Up c.args.up)
    (narrow_frames c.args.frames ++ cond c.args.up.visible c.args.discovers.items [])
    (owed before) c.put.new.links.items c.put.new.links.items c.put.ensures None _
    (sym c.in_default.is ∙ older before) refl
