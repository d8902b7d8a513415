use Rattle.pg_session.proofs
use Rattle.std.proofs.Common.{drop, take, ◌+◌}
use proofs.Places.{around}
use proofs.Telling.{news_gone}
use Rattle.pg_session.proofs.news.News.put_gone.Goals as goal

pub returns-clause-told : goal.returns-clause-told
returns-clause-told c =
    let peers = c.self.inside.peers.items in
    news_gone c.args.self.now peers (take c.args.place peers) (drop (c.args.place + 1) peers)
    c.remove.new.self.items c.self.inside.restarted c.index.result.now c.args.reason
    c.args.out.now.items c.put_down.new.out.items c.self.view_is
    (around peers c.args.place c.index.result.now (rw (← c.self.view_is) at c.requires)
    c.index.ensures) c.remove.ensures.by_index.2
    c.in_ok-put_down.ensures
