use Rattle.otp_edge.proofs.EdgeLemmas.{discover_by, ok_so}
use Rattle.otp_edge.proofs.edge_state.Edge.hear_named.Goals as goal

pub returns-in-Discover-clause-heard : goal.returns-in-Discover-clause-heard
returns-in-Discover-clause-heard c =
    ok_so c.hear_asked.result (λ heard asked. discover_by c.args.self.now _
    c.args.name.now c.in-Discover.pid c.args.said heard c.in-Discover.is asked)
    c.hear_asked.ensures.heard
