use Rattle.node_core.proofs
use proofs.Words.{ap, cond, dial_beside, narrow_frames, None, refl, Some, sym, ◌∙◌, ◌≡◌}
use proofs.MovedOn.{put_in, stated}
use Rattle.node_core.proofs.handshaking.go_on.Goals.{After-put, then-gives_up, else-gives_up}
use Rattle.node_core.proofs.handshaking.go_on.Goals as goal

dial : (c : After-put) → c.if-gives_up.dial
    ≡ cond c.args.gives_up (dial_beside c.args.state c.args.links.now.items) None
dial c = elim c.if-gives_up.branch [
  | then-gives_up w ↦ rw w.if-gives_up.true (w.dial-is ∙ w.dial_beside-dial.ensures
      ∙ ap (dial_beside c.args.state) w.deref.ensures.value)
  | else-gives_up w ↦ rw w.if-gives_up.false w.dial-is
]

pub returns-in-Some : goal.returns-in-Some
returns-in-Some c =
    let is = dial (goal.at.returns-in-Some c).After-put in
    put_in c.args.link c.args.links.now.items c.args.place c.owe_bodies.new.self
    c.args.state (narrow_frames c.args.frames)
    (stated (narrow_frames c.args.frames) c.in_state-link.ensures c.requires.ready.idle
    c.owe_bodies.ensures.owed)
    c.put.new.links.items c.remove.new.links.items c.put.ensures (Some c.in-Some.number) _
    (sym c.in-Some.is ∙ is) c.remove.ensures

pub returns-in_default : goal.returns-in_default
returns-in_default c =
    let is = dial (goal.at.returns-in_default c).After-put in
    put_in c.args.link c.args.links.now.items c.args.place c.owe_bodies.new.self
    c.args.state (narrow_frames c.args.frames)
    (stated (narrow_frames c.args.frames) c.in_state-link.ensures c.requires.ready.idle
    c.owe_bodies.ensures.owed)
    c.put.new.links.items c.put.new.links.items c.put.ensures None _ (sym c.in_default.is ∙ is) refl
