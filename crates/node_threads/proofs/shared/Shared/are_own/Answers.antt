use Rattle.node_threads.proofs.Settling.{last_from_own, own_from_last}
use Rattle.node_threads.proofs.shared.Shared.are_own.Goals as goal

pub returns-then-all_fit : goal.returns-then-all_fit
returns-then-all_fit c =
    let room = c.args.self.now in
    let ps = c.args.passes.now in
    let lists = c.calls_by_seat.result in
    let stand = c.calls_by_seat.ensures in
    let fit = c.all_fit.ensures.0 c.if-all_fit.true in
    let told = rw (
      c.seats-seats.ensures.count,
      c.audit.ensures.forgotten,
      c.core.ensures.forgotten,
      c.audit.ensures.entries,
      c.core.ensures.history,
    ) at c.are_last.ensures in (
      λ yes. own_from_last room ps lists stand fit (told.0 yes),
      λ own. told.1 (last_from_own room ps lists stand c.requires.each own),
    )
