use Rattle.pg_session.proofs.Telling.{news_none}
use Rattle.pg_session.proofs.news.News.put_restart.Goals as goal

pub returns-in_default-clause-told : goal.returns-in_default-clause-told
returns-in_default-clause-told c = news_none c.args.self.now c.args.out.now.items
