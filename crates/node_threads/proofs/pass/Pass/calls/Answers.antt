use Rattle.std.proofs.Common.{ap, sym, ◌∙◌}
use Rattle.node_threads.specs.Calls.{kept_calls}
use Rattle.node_threads.proofs.LetGo.{kept_behind}
use Rattle.node_threads.proofs.pass.Pass.calls.Goals as goal

pub returns : goal.returns
returns c =
    let pass = c.self.inside in
    let first = pass.past.calls in
    c.as_slice.ensures.value
    ∙ sym (kept_behind pass.seat pass.gone first pass.calls.items c.self.invariant)
    ∙ ap kept_calls c.self.view_is
