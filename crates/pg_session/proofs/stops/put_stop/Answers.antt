use Rattle.pg_session.proofs
use Rattle.std.proofs.Common.{refl}
use Rattle.pg_session.specs.Notices.{stopped}
use proofs.Callers.{on_ok}
use proofs.Telling.{news_none, news_one}
use Rattle.pg_session.proofs.stops.put_stop.Goals as goal

pub returns-in-StopScope : goal.returns-in-StopScope
returns-in-StopScope c = on_ok c.put_stopped.result (λ is k. news_one k k (stopped _)
    c.args.out.now.items c.put_stopped.new.out.items refl refl is) c.put_stopped.ensures

pub returns-in_default : goal.returns-in_default
returns-in_default c = λ k. news_none k c.args.out.now.items

pub returns-in_default-2 : goal.returns-in_default-2
returns-in_default-2 c = λ k. news_none k c.args.out.now.items
