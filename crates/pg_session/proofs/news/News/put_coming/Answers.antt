use Rattle.pg_session.proofs.Telling.{news_none}
use Rattle.pg_session.proofs.news.News.put_coming.Goals as goal

pub returns-in_default : goal.returns-in_default
returns-in_default c = news_none c.args.self.now c.args.out.now.items
