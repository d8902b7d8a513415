use Rattle.otp_edge.proofs.EdgeLemmas.{asked_there, ok_so}
use Rattle.otp_edge.proofs.edge_state.Edge.hear_asked.Goals as goal

pub returns-in-Some-clause-heard : goal.returns-in-Some-clause-heard
returns-in-Some-clause-heard c =
    ok_so c.hear_at.result (λ heard comes. asked_there c.args.self.now _
    c.args.name.now c.args.pid heard c.in-Some.place c.in-Some.ensures.found.0
    c.in-Some.ensures.found.1 comes)
    c.hear_at.ensures.heard
