use Rattle.otp_edge.proofs
use Rattle.otp_edge.specs.Watches.{IsOtherWatch}
use proofs.Words.{refl, rules}
use proofs.SayingLemmas.{all_more, all_seen}
use Rattle.otp_edge.proofs.open_scope.watcher_of.Goals as goal

pub loop-place-preserved : goal.loop-place-preserved
loop-place-preserved c = all_more (IsOtherWatch c.args.reference.now) c.args.watchers.now
    c.args.watchers.now c.loop-place.place c.index-watchers-place.result refl
    c.loop-place-test.true c.index-watchers-place.is c.loop-place.invariant (search rules)

pub returns-clause-none : goal.returns-clause-none
returns-clause-none c = λ none. all_seen (IsOtherWatch c.args.reference.now) c.args.watchers.now
    c.args.watchers.now c.loop-place.place refl c.loop-place-test.false c.loop-place.invariant
