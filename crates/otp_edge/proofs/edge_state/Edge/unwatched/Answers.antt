use Rattle.otp_edge.proofs
use proofs.Words.{refl}
use proofs.EdgeLemmas.{same_at, stays_at}
use Rattle.otp_edge.proofs.edge_state.Edge.unwatched.Goals as goal

pub returns-clause-stays : goal.returns-clause-stays
returns-clause-stays c = stays_at c.args.self.now _ c.in-Some.place c.index_mut.result.now
    c.unwatch.new.self c.index_mut.ensures.value c.unwatch.ensures.scope c.unwatch.ensures.own
    (refl, refl, refl) refl refl

pub returns-clause-same : goal.returns-clause-same
returns-clause-same c = same_at c.args.self.now.scopes.items c.in-Some.place c.index_mut.result.now
    c.unwatch.new.self c.index_mut.ensures.value c.unwatch.ensures.seen
