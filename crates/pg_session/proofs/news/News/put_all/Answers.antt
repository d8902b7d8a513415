use Rattle.pg_session.proofs.Telling.{news_all}
use Rattle.pg_session.proofs.news.News.put_all.Goals as goal

pub returns : goal.returns
returns c =
    news_all c.args.self.now c.self.inside.peers.items c.as_slice.result.now c.clear.new.self.items
    c.self.inside.restarted c.args.reason c.args.out.now.items c.put_all_down.new.out.items
    c.self.view_is c.as_slice.ensures.value c.clear.ensures.items c.in_ok-put_all_down.ensures
