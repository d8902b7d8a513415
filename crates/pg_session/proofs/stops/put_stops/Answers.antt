use Rattle.pg_session.proofs.Telling.{more_more, news_none}
use Rattle.pg_session.proofs.stops.put_stops.Goals as goal

pub loop-entry-init : goal.loop-entry-init
loop-entry-init c = λ k. news_none k c.args.out.now.items

pub loop-entry-preserved : goal.loop-entry-preserved
loop-entry-preserved c = more_more c.args.out.now.items c.loop-entry.out.items
    c.put_stop.new.out.items c.loop-entry.invariant c.in_ok-put_stop.ensures
