use Rattle.pg_world.proofs
use proofs.Words.{changed_queue, err_from_is_err_and, get_or, left_by, plain}
use proofs.Words.{refl, set-get_or, under_way, world}
use proofs.Turning.{a_frame, no_frame, none_left, on_wire, refused}
use Rattle.pg_world.proofs.moving.deliver.Goals as goal

pub returns-in_err-end : goal.returns-in_err-end
returns-in_err-end c =
    let p = err_from_is_err_and c.from_residual.result c.from_residual.ensures.1 in
    rw (p.1, p.2) (refused _ _ (rw (← c.in_err-end.ensures.exact)))

pub returns-then-not-carries : goal.returns-then-not-carries
returns-then-not-carries c =
    let none = none_left (under_way c.args.side (get_or c.args.wires.now c.args.wire
    c.index-wires-wire.result)) c.carries.result c.carries.ensures.1 c.if-not-carries.true in
    rw (
      set-get_or c.args.nodes.now c.in_ok-end.end.node c.index-nodes-end.result,
      set-get_or c.args.wires.now c.args.wire c.index-wires-wire.result,
    )
    (refused _ _ (no_frame (world c.args.nodes.now c.args.wires.now) c.args.wire c.args.side
    c.args.seat c.in_ok-end.end c.index-wires-wire.result c.in_ok-end.ensures.within.1
    c.in_ok-end.ensures.exact none))

pub returns : goal.returns
returns c = on_wire _ _ c.args.wire c.index-nodes-end.result c.deliver.new.core
    c.index-wires-wire.result c.deliver.new.self c.deliver.result
    (λ a. changed_queue c.args.side (left_by a)) plain
    (a_frame (world c.args.nodes.now c.args.wires.now) c.args.wire c.args.side c.args.seat
    c.in_ok-end.end c.index-wires-wire.result c.in_ok-end.ensures.within.1 c.in_ok-end.ensures.exact
    (c.carries.ensures.0 c.if-not-carries.false)) c.in_ok-end.ensures.within (λ a. refl)
    (λ a. refl) c.deliver.ensures
