use Rattle.pg_session.proofs.Telling.{news_none}
use Rattle.pg_session.proofs.news.News.put_lost.Goals as goal

pub returns-in-None : goal.returns-in-None
returns-in-None c = news_none c.args.self.now c.args.out.now.items
