use Rattle.pg_world.proofs
use proofs.Words.{changed_queue, count_handed, err_from_is_err_and, joined_by}
use proofs.Words.{other, refl}
use proofs.Turning.{on_wire, refused}
use Rattle.pg_world.proofs.moving.hand.Goals as goal

pub returns-in_err-end : goal.returns-in_err-end
returns-in_err-end c =
    let p = err_from_is_err_and c.from_residual.result c.from_residual.ensures.1 in
    rw (p.1, p.2) (refused _ _ (rw (← c.in_err-end.ensures.exact)))

pub returns : goal.returns
returns c = on_wire _ _ c.args.wire c.index-nodes-end.result c.hand.new.core
    c.index-wires-wire.result c.hand.new.self c.hand.result
    (λ a. changed_queue (other c.args.side) (joined_by a)) count_handed
    (rw (← c.in_ok-end.ensures.exact)) c.in_ok-end.ensures.within (λ a. refl) (λ a. refl)
    c.hand.ensures
