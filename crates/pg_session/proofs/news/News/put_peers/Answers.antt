use Rattle.pg_session.proofs
use proofs.Callers.{on_ok}
use proofs.Telling.{news_more}
use Rattle.pg_session.proofs.news.News.put_peers.Goals as goal

pub returns-clause-told : goal.returns-clause-told
returns-clause-told g c =
    on_ok c.put_ended.result
    (λ told. news_more c.args.self.now c.put_entries.new.self c.put_ended.new.self
    c.args.out.now.items c.put_entries.new.out.items c.put_ended.new.out.items
    c.in_ok-put_entries.ensures told)
    c.put_ended.ensures.told
