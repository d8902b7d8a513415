use Rattle.cookie_digest.proofs
use Rattle.std.proofs.Common.{arith, length, length-append, rules, [], ◌∷◌}
use Rattle.std.proofs.lemmas.Slice.Zip.{zip_end, zip_turn}
use proofs.Differing.{SameBelow-length, SameBelow-suc}
use proofs.challenge.is_same_digest.Goals as goal

pub loop-x-preserved : goal.loop-x-preserved
loop-x-preserved c =
    let turn = zip_turn c.args.a.now c.args.b.now c.loop-x.yielded _ _ c.next.new.self
    _ (search rules) (search rules) c.loop-x.yielded_by _ c.in-Some.is c.next.ensures.steps in
    rw (length-append c.loop-x.yielded ((c.in-Some.x, c.in-Some.y) ∷ []))
    (SameBelow-suc _ _ c.args.a.now c.args.b.now _ _ (turn.2 0) (turn.3 0) c.loop-x.invariant)

pub returns : goal.returns
returns c =
    let end = zip_end c.args.a.now c.args.b.now c.loop-x.yielded _ _ c.next.new.self
    _ (search rules) (search rules) c.loop-x.yielded_by c.in-None.is c.next.ensures.steps in
    let all = SameBelow-length (length c.loop-x.yielded) c.args.a.now c.args.b.now
    (omega (arith, end, c.fits-a, c.fits-b)) (omega (arith, end, c.fits-a, c.fits-b)) in
    grind (arith, c.loop-x.invariant, all)
