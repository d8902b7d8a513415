use Rattle.std.proofs.Common.{refl}
use Rattle.pg_session.specs.Notices.{up}
use Rattle.pg_session.proofs.Telling.{added, news_more, news_one}
use Rattle.pg_session.proofs.news.News.put_newer.Goals as goal

pub returns : goal.returns
returns c =
    let named = c.in_ok-put_named.ensures in
    news_more c.args.self.now c.put_named.new.self _ c.args.out.now.items c.put_named.new.out.items
    c.put_up.new.out.items named.told
    (news_one c.put_named.new.self _ (up c.args.peer.name c.args.peer.creation c.args.visible)
    c.put_named.new.out.items c.put_up.new.out.items (
      c.args.peer,
      named.none,
      refl,
      refl,
      added c.put_named.new.self c.self.inside.peers.items c.push.new.self.items
          c.self.inside.restarted c.args.peer c.self.view_is c.in_ok-push.ensures.items,
    ) refl c.in_ok-put_up.ensures)
