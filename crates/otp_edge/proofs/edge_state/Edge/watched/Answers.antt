use Rattle.otp_edge.proofs
use proofs.Words.{refl}
use proofs.EdgeLemmas.{open_same, same_at, stays_at}
use proofs.SayingLemmas.{knows_the_same, on_err}
use Rattle.otp_edge.proofs.edge_state.Edge.watched.Goals as goal

pub returns-in_err-watch-in-Some-clause-stays : goal.returns-in_err-watch-in-Some-clause-stays
returns-in_err-watch-in-Some-clause-stays c =
    let kept = c.in_err-watch-in-Some.ensures in
    stays_at c.args.self.now _ c.in-Some.place c.index_mut.result.now c.watch.new.self
    c.index_mut.ensures.value kept.scope kept.own (refl, refl, refl) refl refl

pub returns-in_err-watch-in-Some-clause-same : goal.returns-in_err-watch-in-Some-clause-same
returns-in_err-watch-in-Some-clause-same c = same_at c.args.self.now.scopes.items c.in-Some.place
    c.index_mut.result.now c.watch.new.self c.index_mut.ensures.value
    c.in_err-watch-in-Some.ensures.seen

pub returns-in_err-watch-in-Some-clause-memory : goal.returns-in_err-watch-in-Some-clause-memory
returns-in_err-watch-in-Some-clause-memory c =
    let kept = c.in_err-watch-in-Some.ensures in
    on_err _ (knows_the_same c.args.self.now.scopes.items c.in-Some.place
    c.index_mut.result.now c.watch.new.self c.index_mut.ensures.value
    (open_same c.index_mut.result.now c.watch.new.self kept.scope kept.own kept.seen
    kept.reference kept.same))

pub returns-in_ok-watch-in-Some-clause-stays : goal.returns-in_ok-watch-in-Some-clause-stays
returns-in_ok-watch-in-Some-clause-stays c =
    let kept = c.in_ok-watch-in-Some.ensures in
    stays_at c.args.self.now _ c.in-Some.place c.index_mut.result.now c.watch.new.self
    c.index_mut.ensures.value kept.scope kept.own (refl, refl, refl) refl refl

pub returns-in_ok-watch-in-Some-clause-same : goal.returns-in_ok-watch-in-Some-clause-same
returns-in_ok-watch-in-Some-clause-same c = same_at c.args.self.now.scopes.items c.in-Some.place
    c.index_mut.result.now c.watch.new.self c.index_mut.ensures.value
    c.in_ok-watch-in-Some.ensures.seen
