use Rattle.pg_session.proofs.Telling.{news_none}
use Rattle.pg_session.proofs.news.News.put_entry.Goals as goal

pub returns-in_default : goal.returns-in_default
returns-in_default g c = news_none c.args.self.now c.args.out.now.items

pub returns-in_default-event : goal.returns-in_default-event
returns-in_default-event g c = news_none c.args.self.now c.args.out.now.items
