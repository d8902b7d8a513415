use Rattle.node_core.proofs
use proofs.Words.{ap, arith, beside, length, length-map, refl, Reply, rules, ◌+◌, ◌∙◌, ◌≡◌, ◌≤◌}
use Rattle.std.specs.List.{insert}
use proofs.Answering.{accepts, ends, wanted, wants}
use proofs.HeldLink.{held_ready, held_restored, IsHeld, last_unwhole, room_follows, taken_unbegun}
use proofs.LastHeard.{handshakes, last_broke, last_came_up, last_few, last_has_peer, last_never_on}
use proofs.LastHeard.{last_next, last_quiet}
use Rattle.node_core.proofs.kept.Kept.last_frame.Given.{Over}
use Rattle.node_core.proofs.kept.Kept.last_frame.Goals.{After-into_parts-state}
use Rattle.node_core.proofs.kept.Kept.last_frame.Goals as goal

-- the link, with room, taken out and apart from its state
held : (g : Over) (c : After-into_parts-state g)
    → IsHeld g.call.past c.args.self.now.links.items c.args.number c.args.place
    c.index_mut.result.now c.make_room.new.self c.remove.result c.into_parts-state.result.0
    c.into_parts-state.result.1 c.remove.new.self.items
held g c = search rules

pub into_parts-state-requires : goal.into_parts-state-requires
into_parts-state-requires g c =
    taken_unbegun c.requires.link.called.keeps.follows c.args.number {out = c.remove.result}
    c.requires.link.here
    (last_unwhole c.args.number g.call.past.entries c.requires.last) c.index_mut.ensures.value
    c.make_room.ensures.same (search rules)

pub returns-in_err-make_room : goal.returns-in_err-make_room
returns-in_err-make_room g c =
    let link = c.requires.link in
    wanted link.called _ _ refl
    (room_follows link.called.keeps.follows c.args.number link.here c.index_mut.ensures.value
    c.make_room.ensures.same) _ c.from_residual.ensures.1

pub returns-in_err-arrival : goal.returns-in_err-arrival
returns-in_err-arrival g c =
    let link = c.requires.link in
    wanted link.called _ _ refl
    (room_follows link.called.keeps.follows c.args.number link.here c.index_mut.ensures.value
    c.make_room.ensures.same) _ c.from_residual-in_err-arrival.ensures.1

pub arrival_of-requires : goal.arrival_of-requires
arrival_of-requires g c =
    let link = c.requires.link in
    last_has_peer link.called.keeps.follows c.args.number link.here c.index_mut.ensures.value
    c.make_room.ensures.same c.index.ensures c.requires.opens c.requires.last

pub hear-heard-requires : goal.hear-heard-requires
hear-heard-requires g c =
    let held = held g (goal.at.hear-heard-requires g c).After-into_parts-state in
    handshakes c.requires.link.called.keeps.follows g.call.seat c.args.body.now held c.requires.last

pub come_up-requires-clause-ready : goal.come_up-requires-clause-ready
come_up-requires-clause-ready g c =
    let t = c.requires.link.called.keeps.follows in
    let held = held g (goal.at.come_up-requires-clause-ready g c).After-into_parts-state in
    let others = beside c.deref-2.result.now in
    let asked = c.in_ok-arrival.arrival.discovers.items in
    let few : length c.in-Up.frames ≤ 2 =
    last_few t g.call.seat c.args.body.now held c.requires.last others c.in-Up.up c.in-Up.frames
    (rw (c.as_slice-bytes.ensures, c.of.ensures) at c.in-Up.ensures) in
    let long : length asked ≡ length c.args.self.now.scopes.items =
    ap length c.in_ok-arrival.ensures.discovers ∙ length-map c.deref.result.now _
    ∙ ap length c.deref.ensures.value in
    held_ready t held (length c.in-Up.frames + length asked)
    (omega (arith, c.in_ok-make_room.ensures.ok, c.len.ensures))

pub unreachable-requires : goal.unreachable-requires
unreachable-requires g c =
    let held = held g (goal.at.unreachable-requires g c).After-into_parts-state in
    last_never_on c.requires.link.called.keeps.follows g.call.seat c.args.body.now held
    c.requires.last (beside c.deref-2.result.now) c.in-On.state c.in-On.frames c.in-On.gives_up
    (rw (c.as_slice-bytes.ensures, c.of.ensures) at c.in-On.ensures)

pub returns-in-Up : goal.returns-in-Up
returns-in-Up g c =
    let t = c.requires.link.called.keeps.follows in
    let held = held g (goal.at.returns-in-Up g c).After-into_parts-state in
    let others = beside c.deref-2.result.now in
    let hears = rw (c.as_slice-bytes.ensures, c.of.ensures) at c.in-Up.ensures in
    let known = c.in_ok-arrival.ensures.known in
    let lost = rw known at c.in_ok-arrival.ensures.changes in
    let changes = c.in_ok-arrival.arrival.changes.items in
    let cut = rw (
      c.peer-in-Up.ensures,
      c.unwrap_or-gone.ensures,
      c.older_of.ensures,
      c.peer.ensures,
      c.deref-in-Up.ensures.value,
      c.number.ensures,
    ) at c.end_link.ensures in
    let answer = c.up_reply-reply.ensures
    ∙ ap (λ n. Reply.Up n c.in-Up.up.creation c.in-Up.up.visible) c.in_ok-arrival.ensures.copy in
    accepts c.requires.link.called _ _ refl _ _ _ c.both.ensures
    (last_quiet t g.call.seat c.args.body.now held c.requires.last) (
      last_next t g.call.seat c.args.body.now held c.requires.last others c.in-Up.up c.in-Up.frames
          hears c.index.ensures known answer changes c.deref.ensures.value lost,
      last_came_up t g.call.seat c.args.body.now held c.requires.last others c.in-Up.up
          c.in-Up.frames hears c.index.ensures known answer changes c.deref.ensures.value lost
          c.come_up.new.links.items c.in_ok-arrival.ensures.discovers c.come_up.ensures
          c.end_link.new.scopes.items cut,
    )

pub returns-in-Ended : goal.returns-in-Ended
returns-in-Ended g c =
    let held = held g (goal.at.returns-in-Ended g c).After-into_parts-state in
    ends c.requires.link.called _ _ refl _
    (last_broke c.requires.link.called.keeps.follows g.call.seat c.args.body.now held
    c.requires.last (beside c.deref-2.result.now) c.in-Ended.rule c.in-Ended.frames
    (rw (c.as_slice-bytes.ensures, c.of.ensures) at c.in-Ended.ensures)
    c.end.new.links.items c.end.ensures)

pub returns-in-OutOfMemory : goal.returns-in-OutOfMemory
returns-in-OutOfMemory g c =
    let held = held g (goal.at.returns-in-OutOfMemory g c).After-into_parts-state in
    wants c.requires.link.called _ _ refl
    (held_restored c.requires.link.called.keeps.follows held c.in-OutOfMemory.ensures
    (c.put.ensures ∙ ap (insert c.remove.new.self.items c.args.place) c.in_state.ensures))
