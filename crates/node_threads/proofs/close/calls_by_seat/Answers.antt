use Rattle.std.proofs.Common.{arith, get_or, set, subst, sym, take, ℕ, ◌+◌, ◌<◌, ◌∙◌, ◌≡◌}
use Rattle.std.specs.List.{All}
use Rattle.std.proofs.lemmas.List.{length-set}
use Rattle.node_threads.specs.Calls.{Record}
use Rattle.node_threads.proofs.Settling.{stand_in_more, StandsIn}
use Rattle.node_threads.proofs.close.calls_by_seat.Goals as goal

pub loop-pass-preserved : goal.loop-pass-preserved
loop-pass-preserved c =
    let ps = c.args.passes.now in
    let pass = c.pass-item.result in
    let here : get_or ps c.loop-pass.pass-index pass ≡ pass = cc in
    let inside : pass.seat < c.args.seats = subst (λ (p : Record). p.seat < c.args.seats) here
    (c.requires.seated c.loop-pass.pass-index pass (omega arith)) in
    let lists = c.loop-pass.calls in
    let new = c.calls.result in
    let more = stand_in_more c.args.seats ps c.loop-pass.pass-index pass (omega arith) here
    c.requires.one inside in
    let stand = more lists new (omega arith) c.calls.ensures c.loop-pass.invariant.1 in (
      length-set lists c.seat.result new ∙ c.loop-pass.invariant.0,
      subst (λ (s : ℕ). All (StandsIn (set lists s new)) (take (c.loop-pass.pass-index + 1) ps))
          (sym c.seat.ensures) stand,
    )
