use Rattle.node_core.proofs
use proofs.Words.{◌∙◌}
use Rattle.std.proofs.lemmas.Result.{on_ok_weaker}
use proofs.Told.{all_spelled}
use proofs.links.prepare.Goals as goal

pub returns-clause-ok : goal.returns-clause-ok
returns-clause-ok c =
    let s = c.in-Ok.spelled in
    on_ok_weaker c.prepare_frames.result
    (λ q. q ∙ all_spelled c.args.numbers.now c.args.message.now s.whole.items s.parts.items
    c.args.links.now.items (rw c.deref.ensures.value at c.in-Ok.ensures.whole)
    (rw c.deref.ensures.value at c.in-Ok.ensures.parts))
    c.prepare_frames.ensures.ok
