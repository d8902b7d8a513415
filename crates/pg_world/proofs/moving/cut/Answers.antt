use Rattle.pg_world.proofs
use proofs.Words.{changed_queue, cut_by, err_from_is_err_and, plain, refl}
use proofs.Turning.{on_wire, refused}
use Rattle.pg_world.proofs.moving.cut.Goals as goal

pub returns-in_err-end : goal.returns-in_err-end
returns-in_err-end c =
    let p = err_from_is_err_and c.from_residual.result c.from_residual.ensures.1 in
    rw (p.1, p.2) (refused _ _ (rw (← c.in_err-end.ensures.exact)))

pub returns : goal.returns
returns c = on_wire _ _ c.args.wire c.index-nodes-end.result c.cut.new.core
    c.index-wires-wire.result c.cut.new.self c.cut.result
    (λ a. changed_queue c.args.side (cut_by a)) plain
    (rw (← c.in_ok-end.ensures.exact)) c.in_ok-end.ensures.within (λ a. refl) (λ a. refl)
    c.cut.ensures
