use Rattle.pg_session.proofs
use Rattle.std.proofs.Common.{sym, ◌∙◌}
use Rattle.pg_session.specs.Notices.{is_named}
use proofs.Places.{no_place, place_within}
use proofs.Telling.{news_more, news_none}
use Rattle.pg_session.proofs.news.News.put_named.Goals as goal

pub loop-place-init : goal.loop-place-init
loop-place-init c = news_none c.args.self.now c.args.out.now.items

pub put_gone-requires : goal.put_gone-requires
put_gone-requires c = place_within (is_named c.args.name.now) c.loop-place.self.peers
    c.in-Some.place (sym c.in-Some.ensures)

pub loop-place-preserved : goal.loop-place-preserved
loop-place-preserved c =
    news_more c.args.self.now c.loop-place.self c.put_gone.new.self c.args.out.now.items
    c.loop-place.out.items c.put_gone.new.out.items c.loop-place.invariant
    c.in_ok-put_gone.ensures.told

pub returns-clause-none : goal.returns-clause-none
returns-clause-none c = no_place (is_named c.args.name.now) c.loop-place.self.peers
    (sym c.place_of.ensures ∙ c.in_default.is)
