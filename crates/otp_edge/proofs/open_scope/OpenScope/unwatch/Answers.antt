use Rattle.otp_edge.proofs
use proofs.WatchLemmas.{unwatched_one}
use Rattle.otp_edge.proofs.open_scope.OpenScope.unwatch.Goals as goal

pub returns-in-Some-clause-watchers : goal.returns-in-Some-clause-watchers
returns-in-Some-clause-watchers c = unwatched_one c.args.reference.now
    c.args.self.now.watchers.items c.deref.result.now c.swap_remove.new.self.items
    c.in-Some.place c.swap_remove.result c.deref.ensures.value c.in-Some.ensures.found.0
    c.in-Some.ensures.found.1 c.swap_remove.ensures.value c.swap_remove.ensures.items
