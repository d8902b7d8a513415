use Rattle.pg_world.proofs
use proofs.Words.{err_from_is_err_and, link_opened, plain, refl, with_link}
use proofs.Turning.{on_wire, refused}
use Rattle.pg_world.proofs.moving.accept.Goals as goal

pub returns-in_err-node : goal.returns-in_err-node
returns-in_err-node c =
    let p = err_from_is_err_and c.from_residual.result c.from_residual.ensures.1 in
    rw (p.1, p.2) (refused _ _ (rw (← c.in_err-node.ensures.exact)))

pub returns : goal.returns
returns c = on_wire _ _ c.args.wire c.index-nodes-node.result c.accept.new.core
    c.index-wires-wire.result c.accept.new.self c.accept.result (λ a. with_link (link_opened a))
    plain (rw (← c.in_ok-node.ensures.exact)) c.in_ok-node.ensures.within (λ a. refl) (λ a. refl)
    c.accept.ensures
