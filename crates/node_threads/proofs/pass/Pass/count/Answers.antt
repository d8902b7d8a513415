use Rattle.std.proofs.Common.{ap, length, ◌+◌, ◌∙◌}
use Rattle.node_threads.specs.Calls.{Record}
use Rattle.node_threads.proofs.LetGo.{count_all}
use Rattle.node_threads.proofs.pass.Pass.count.Goals as goal

pub returns : goal.returns
returns c =
    let pass = c.self.inside in
    let first = pass.past.calls in
    let all = count_all pass.seat pass.gone first pass.calls.items c.self.invariant in
    ap (λ n. pass.gone + n) (c.len.ensures ∙ pass.calls.ok.0) ∙ all
    ∙ ap (λ (p : Record). length p.calls) c.self.view_is
