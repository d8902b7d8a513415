use Rattle.std.proofs.Common.{arith, get_or}
use Rattle.std.proofs.lemmas.List.{get_or_default}
use Rattle.std.proofs.lemmas.List.Edits.{map_over_more}
use Rattle.pg_session.specs.Watched.{told_by}
use Rattle.pg_session.proofs.watched.Watched.tell.Goals as goal

pub loop-watch-preserved : goal.loop-watch-preserved
loop-watch-preserved c =
    let it = get_or c.loop-watch.watch-items c.loop-watch.watch-index c.watch-item.result in
    rw c.tell_one.ensures (map_over_more (told_by c.args.self.now) c.args.watches.now.items
    c.loop-watch.watch-items c.loop-watch.watch-index it (omega arith) c.loop-watch.invariant
    (get_or_default c.loop-watch.watch-items c.loop-watch.watch-index c.watch-item.result it
    (omega arith)))
