use Rattle.otp_edge.proofs
use proofs.Words.{ap, arith, length, refl, ◌<◌, ◌∙◌}
use Rattle.std.proofs.Common.{inr}
use proofs.EdgeLemmas.{one_there, stays_at, takes_there}
use Rattle.otp_edge.specs.declared.open_scope.OpenScope.{OpenScope}
use Rattle.otp_edge.proofs.edge_state.Edge.hear_at.Goals as goal

pub hear-heard-requires-clause-scope : goal.hear-heard-requires-clause-scope
hear-heard-requires-clause-scope c =
    let within : c.args.place < length c.args.self.now.scopes.items = omega arith in
    c.in_ok-ready.ensures.scope ∙ ap (λ (o : OpenScope). o.scope)
    (one_there c.args.self.now.scopes.items c.args.place c.index.result.now c.index_mut.result.now
    within c.index.ensures c.index_mut.ensures.value)

pub hear-heard-requires-clause-copy : goal.hear-heard-requires-clause-copy
hear-heard-requires-clause-copy c =
    let within : c.args.place < length c.args.self.now.scopes.items = omega arith in
    c.in_ok-ready.ensures.copy ∙ ap (λ (o : OpenScope). o.scope)
    (one_there c.args.self.now.scopes.items c.args.place c.index.result.now c.index_mut.result.now
    within c.index.ensures c.index_mut.ensures.value)

pub returns-clause-heard : goal.returns-clause-heard
returns-clause-heard c = inr (λ d. takes_there c.args.self.now _ c.args.said c.hear-heard.result
    c.args.place c.index_mut.result.now c.hear-heard.new.self d (omega arith)
    c.index_mut.ensures.value c.hear-heard.ensures.heard refl c.hear-heard.ensures.seen)

pub returns-clause-stays : goal.returns-clause-stays
returns-clause-stays c = stays_at c.args.self.now _ c.args.place c.index_mut.result.now
    c.hear-heard.new.self c.index_mut.ensures.value c.hear-heard.ensures.scope
    c.hear-heard.ensures.own (refl, refl, refl) refl refl
