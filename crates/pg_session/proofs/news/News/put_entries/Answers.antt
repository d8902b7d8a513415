use Rattle.pg_session.proofs.Telling.{news_more, news_none}
use Rattle.pg_session.proofs.news.News.put_entries.Goals as goal

pub loop-entry-init : goal.loop-entry-init
loop-entry-init g c = news_none c.args.self.now c.args.out.now.items

pub loop-entry-preserved : goal.loop-entry-preserved
loop-entry-preserved g c =
    news_more c.args.self.now c.loop-entry.self c.put_entry.new.self c.args.out.now.items
    c.loop-entry.out.items c.put_entry.new.out.items c.loop-entry.invariant
    c.in_ok-put_entry.ensures
