use Rattle.std.proofs.Common.{append_assoc, drop, refl, take, [], ◌++◌, ◌≡◌}
use Rattle.std.proofs.lemmas.List.{take-append-drop}
use Rattle.std.proofs.lemmas.Result.{err_from_is_err_and}
use Rattle.node_threads.proofs.Steps.{reads_none, reads_then, stops_then}
use Rattle.node_threads.proofs.reading.hand_in_all.Goals as goal

pub loop-left-init : goal.loop-left-init
loop-left-init g c = ([], refl, reads_none refl)

pub returns-in_err-used-clause-ended : goal.returns-in_err-used-clause-ended
returns-in_err-used-clause-ended g c =
    let failed = err_from_is_err_and c.from_residual.result c.from_residual.ensures.1 in
    let so_far = c.loop-left.invariant in
    rw (failed.1, failed.2) (stops_then so_far.1 so_far.2 c.in_err-used.ensures)

pub loop-left-preserved : goal.loop-left-preserved
loop-left-preserved g c =
    let so_far = c.loop-left.invariant in
    let left = c.loop-left.left.now in
    let used = c.in_ok-used.used in
    let whole : c.args.piece.now ≡ (so_far.0 ++ take used left) ++ drop used left =
    rw (append_assoc so_far.0 (take used left) (drop used left), take-append-drop used left)
    so_far.1
    in (
      so_far.0 ++ take used left,
      rw c.split_at.ensures.back whole,
      reads_then so_far.2 c.in_ok-used.ensures.2,
    )
