use Rattle.std.proofs.Common.{false, refl, sym, true, ◌∙◌, ◌≡◌}
use Rattle.std.proofs.lemmas.Result.{err_from_is_err_and}
use Rattle.node_threads.proofs.Steps.{handed_end, handed_none, handed_on, handed_up, stops_unfed}
use Rattle.node_threads.proofs.reading.hand_in.Goals.{else-branch-via-else-branch}
use Rattle.node_threads.proofs.reading.hand_in.Goals.{else-branch-via-then-branch+else-not-done}
use Rattle.node_threads.proofs.reading.hand_in.Goals as goal

pub returns-in_err-used : goal.returns-in_err-used
returns-in_err-used g c =
    let failed = err_from_is_err_and c.from_residual.result c.from_residual.ensures.1 in
    rw (failed.1, failed.2) (stops_unfed c.in_err-used.field-0.0)

pub returns-in_default : goal.returns-in_default
returns-in_default g c =
    handed_none c.args.work.now.link c.args.piece.now c.in_ok-used.field-0.used c.args.pass.now
    c.args.pass.now c.args.cutter.now c.feed.new.self c.in_ok-used.field-0.body c.in_default.is
    c.in_ok-used.ensures refl

pub returns-in_err-answer : goal.returns-in_err-answer
returns-in_err-answer g c =
    let failed =
    err_from_is_err_and c.from_residual-in_err-answer.result
    c.from_residual-in_err-answer.ensures.1 in
    rw (failed.1, failed.2) (handed_end c.args.work.now.link c.args.piece.now
    c.in_ok-used.field-0.used c.args.pass.now c.give-answer.new.pass c.args.cutter.now
    c.feed.new.self
    c.in_ok-used.field-0.body c.in-Some.body c.in-Some.is c.in_ok-used.ensures
    c.is_done-done.result c.in_err-answer.field-0.0 c.is_done-done.ensures c.in_err-answer.ensures)

pub returns-then-not-done : goal.returns-then-not-done
returns-then-not-done g c =
    handed_up c.args.work.now.link c.args.piece.now c.in_ok-used.field-0.used c.args.pass.now
    c.give-answer.new.pass c.args.cutter.now c.feed.new.self c.in_ok-used.field-0.body
    c.in-Some.body
    c.in-Some.is c.in_ok-used.ensures c.of_messages.result c.is_done-done.result
    c.of_messages.ensures
    (rw c.if-branch.true at c.in_ok-answer.ensures) (sym c.if-not-done.ensures)

pub returns-else-branch : goal.returns-else-branch
returns-else-branch g c =
    handed_on c.args.work.now.link c.args.piece.now c.in_ok-used.field-0.used c.args.pass.now
    c.give-answer.new.pass c.args.cutter.now c.feed.new.self c.in_ok-used.field-0.body
    c.in-Some.body
    c.in-Some.is c.in_ok-used.ensures c.in_ok-answer.field-0 c.is_done-done.result
    c.in_ok-answer.ensures
    (λ early. elim c.else-branch.branch [
      | else-branch-via-then-branch+else-not-done w ↦
          let wrong : true ≡ false = w.if-not-done.ensures ∙ early in cc
      | else-branch-via-else-branch w ↦ w.if-branch.false
    ])
