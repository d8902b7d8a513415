use Rattle.node_core.proofs
use proofs.Words.{ap, arith, length, unroomed, with_prepared, [], ◌≡◌}
use Rattle.std.proofs.Math.Seq.{take-append_seam}
use proofs.Zipped.{all_zipped, zipped, zipped_map}
use proofs.links.forget.Goals as goal

pub loop-link-preserved : goal.loop-link-preserved
loop-link-preserved c =
    zipped (λ x y. unroomed y ≡ unroomed (with_prepared x [])) c.args.links.now.items
    c.loop-link.link-items c.loop-link.link-index c.link-item.result c.forget.new.self
    c.loop-link.invariant (omega arith) (ap unroomed c.forget.ensures)

pub returns : goal.returns
returns c =
    let long : length c.loop-link.link-items ≡ c.args.links.now.len = omega arith in
    rw (← long, take-append_seam)
    (zipped_map (λ x y. unroomed y ≡ unroomed (with_prepared x []))
    (λ x. unroomed (with_prepared x [])) unroomed (λ x y e. e) c.args.links.now.items
    c.loop-link.link-items
    (all_zipped (λ x y. unroomed y ≡ unroomed (with_prepared x [])) c.loop-link.link-index
    c.args.links.now.items c.loop-link.link-items c.loop-link.invariant (omega arith)))
