use Rattle.otp_edge.proofs
use Rattle.otp_edge.specs
use proofs.Words.{ap, refl, ◌++◌, ◌∙◌}
use specs.Endings.{asking_of}
use specs.Said.{runs, told}
use proofs.SayingLemmas.{runs_there}
use Rattle.otp_edge.proofs.edge_state.Edge.say_discover.Goals as goal

pub returns-in_ok-ask-in-Some-clause-said : goal.returns-in_ok-ask-in-Some-clause-said
returns-in_ok-ask-in-Some-clause-said c = told (runs c.index.result.now
    (runs_there c.args.scope c.args.self.now.scopes.items c.in-Some.place c.index.result.now
    c.in-Some.ensures.found.0 (λ d. c.in-Some.ensures.found.1 d ∙ c.as_bytes.ensures.value)
    c.index.ensures)
    (c.in_ok-ask-in-Some.ensures
    ∙ ap (λ l. l ++ asking_of c.index.result.now) c.new-out.ensures.items) refl refl)
