use Rattle.pg_session.proofs
use Rattle.std.proofs.Common.{codes, decimal, refl}
use Rattle.pg_session.specs.Notices.{ended}
use proofs.Callers.{on_ok}
use proofs.Telling.{in_line, news_none, news_one}
use Rattle.pg_session.proofs.watch.Watch.put_end.Goals as goal

pub returns-then-not-self-clause-more : goal.returns-then-not-self-clause-more
returns-then-not-self-clause-more c = λ k. news_none k c.args.out.now.items

pub returns-clause-more : goal.returns-clause-more
returns-clause-more c =
    on_ok c.put_numbered_line.result
    (λ is k. news_one k k (ended c.from.result) c.args.out.now.items
    c.put_numbered_line.new.out.items refl refl
    (in_line c.args.out.now.items (codes "! ended ") (decimal c.from.result) (codes "\n")
    c.put_numbered_line.new.out.items is))
    c.put_numbered_line.ensures
