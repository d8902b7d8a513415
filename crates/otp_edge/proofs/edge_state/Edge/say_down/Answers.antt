use Rattle.otp_edge.proofs
use proofs.Words.{◌∙◌}
use proofs.SayingLemmas.{stopped_there}
use Rattle.otp_edge.proofs.edge_state.Edge.say_down.Goals as goal

pub returns-clause-said : goal.returns-clause-said
returns-clause-said c = λ processes later atoms. stopped_there c.args.self.now.own
    c.args.self.now.scopes.items c.swap_remove.new.self.items processes later atoms
    c.args.scope.now
    c.in_ok-out.out.items c.in-Some.place c.index.result.now c.swap_remove.result
    c.in-Some.ensures.found.0 (λ d. c.in-Some.ensures.found.1 d ∙ c.as_bytes.ensures.value)
    c.index.ensures c.swap_remove.ensures.value c.in_ok-out.ensures c.swap_remove.ensures.items
