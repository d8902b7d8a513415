use Rattle.otp_edge.proofs.EdgeLemmas.{ended_there}
use Rattle.otp_edge.proofs.edge_state.Edge.hear_end.Goals as goal

pub returns-in-Some-place_of_own-clause-heard : goal.returns-in-Some-place_of_own-clause-heard
returns-in-Some-place_of_own-clause-heard c =
    let own = rw c.in-Some.is at c.in_ok-own.ensures.found in
    let other = rw c.in-Some-2.is at c.in_ok-other.ensures.found in
    ended_there c.args.self.now _ c.args.from.now c.args.to.now c.in-Some.own c.in-Some-2.other
    c.in_ok-end-in-Some-place_of_own.end c.in-Some-place_of_own.place
    c.in-Some-place_of_own.ensures.found.0
    c.in-Some-place_of_own.ensures.found.1 own.1 other.1
    c.in_ok-end-in-Some-place_of_own.ensures.heard
