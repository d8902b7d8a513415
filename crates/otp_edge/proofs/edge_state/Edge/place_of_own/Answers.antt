use Rattle.otp_edge.proofs
use Rattle.otp_edge.specs.Opens.{IsOtherProcess}
use proofs.Words.{rules}
use proofs.SayingLemmas.{all_more, all_seen}
use Rattle.otp_edge.proofs.edge_state.Edge.place_of_own.Goals as goal

pub loop-place-preserved : goal.loop-place-preserved
loop-place-preserved c = all_more (IsOtherProcess c.args.own.now) c.args.self.now.scopes.items
    c.deref-open-items.result.now c.loop-place.place c.open-item.result
    c.deref-open-items.ensures.value c.loop-place-test.true c.open-item.is
    c.loop-place.invariant (search rules)

pub returns-clause-none : goal.returns-clause-none
returns-clause-none c = λ none. all_seen (IsOtherProcess c.args.own.now)
    c.args.self.now.scopes.items c.deref-open-items.result.now c.loop-place.place
    c.deref-open-items.ensures.value c.loop-place-test.false c.loop-place.invariant
