use Rattle.node_core.proofs
use proofs.Words.{ap, arith, length, refl, rules, ◌∙◌, ◌≤◌}
use Rattle.std.specs.List.{insert}
use proofs.Answering.{accepts, ends, wanted, wants}
use proofs.EarlyFrame.{early_broke, early_few, early_never_up, early_went_on, handshakes}
use proofs.HeardFrames.{unwhole_quiet}
use proofs.HeldLink.{held_ready, held_restored, IsHeld, room_follows, taken_unbegun}
use Rattle.node_core.proofs.kept.Kept.early_frame.Given.{Over}
use Rattle.node_core.proofs.kept.Kept.early_frame.Goals.{After-into_parts-state}
use Rattle.node_core.proofs.kept.Kept.early_frame.Goals as goal

-- the link, with room, taken out and apart from its state
held : (g : Over) (c : After-into_parts-state g)
    → IsHeld g.call.past c.args.self.now.links.items c.args.number c.args.place
    c.index_mut.result.now c.make_room.new.self c.remove.result c.into_parts-state.result.0
    c.into_parts-state.result.1 c.remove.new.self.items
held g c = search rules

pub into_parts-state-requires : goal.into_parts-state-requires
into_parts-state-requires g c =
    taken_unbegun c.requires.link.called.keeps.follows c.args.number {out = c.remove.result}
    c.requires.link.here
    c.requires.unwhole c.index_mut.ensures.value c.make_room.ensures.same (search rules)

pub returns-in_err-make_room : goal.returns-in_err-make_room
returns-in_err-make_room g c =
    let link = c.requires.link in
    wanted link.called _ _ refl
    (room_follows link.called.keeps.follows c.args.number link.here c.index_mut.ensures.value
    c.make_room.ensures.same) _ c.from_residual.ensures.1

pub hear-heard-requires : goal.hear-heard-requires
hear-heard-requires g c =
    let held = held g (goal.at.hear-heard-requires g c).After-into_parts-state in
    handshakes c.requires.link.called.keeps.follows g.call.seat c.args.body.now held
    c.requires.unwhole c.requires.early

pub go_on-requires-clause-ready : goal.go_on-requires-clause-ready
go_on-requires-clause-ready g c =
    let t = c.requires.link.called.keeps.follows in
    let held = held g (goal.at.go_on-requires-clause-ready g c).After-into_parts-state in
    let few : length c.in-On.frames ≤ 2 =
    early_few t g.call.seat c.args.body.now held c.requires.unwhole c.requires.early
    c.deref.ensures.value c.in-On.state c.in-On.frames c.in-On.gives_up
    (rw (c.as_slice-bytes.ensures, c.of.ensures) at c.in-On.ensures) in
    held_ready t held (length c.in-On.frames) (omega (arith, c.in_ok-make_room.ensures.ok))

pub unreachable-requires : goal.unreachable-requires
unreachable-requires g c =
    let held = held g (goal.at.unreachable-requires g c).After-into_parts-state in
    early_never_up c.requires.link.called.keeps.follows g.call.seat c.args.body.now held
    c.requires.unwhole c.requires.early c.deref.ensures.value c.in-Up.up c.in-Up.frames
    (rw (c.as_slice-bytes.ensures, c.of.ensures) at c.in-Up.ensures)

pub returns-in-On : goal.returns-in-On
returns-in-On g c =
    let held = held g (goal.at.returns-in-On g c).After-into_parts-state in
    accepts c.requires.link.called _ _ refl _ _ _ c.done.ensures
    (unwhole_quiet g.call.past c.args.number c.args.body.now c.requires.unwhole)
    (early_went_on c.requires.link.called.keeps.follows g.call.seat c.args.body.now held
    c.requires.unwhole c.requires.early c.deref.ensures.value c.in-On.state c.in-On.frames
    c.in-On.gives_up (rw (c.as_slice-bytes.ensures, c.of.ensures) at c.in-On.ensures)
    c.go_on.new.links.items c.go_on.ensures)

pub returns-in-Ended : goal.returns-in-Ended
returns-in-Ended g c =
    let held = held g (goal.at.returns-in-Ended g c).After-into_parts-state in
    ends c.requires.link.called _ _ refl _
    (early_broke c.requires.link.called.keeps.follows g.call.seat c.args.body.now held
    c.requires.unwhole c.requires.early c.deref.ensures.value c.in-Ended.rule c.in-Ended.frames
    (rw (c.as_slice-bytes.ensures, c.of.ensures) at c.in-Ended.ensures)
    c.end.new.links.items c.end.ensures)

pub returns-in-OutOfMemory : goal.returns-in-OutOfMemory
returns-in-OutOfMemory g c =
    let held = held g (goal.at.returns-in-OutOfMemory g c).After-into_parts-state in
    wants c.requires.link.called _ _ refl
    (held_restored c.requires.link.called.keeps.follows held c.in-OutOfMemory.ensures
    (c.put.ensures ∙ ap (insert c.remove.new.self.items c.args.place) c.in_state.ensures))
