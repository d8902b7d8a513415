use Rattle.pg_session.proofs
use Rattle.std.proofs.Common.{ap, false, map, subst, [], ◌∙◌, ◌≡◌}
use Rattle.std.specs.List.{list_any}
use Rattle.pg_session.specs.Notices.{has_gone}
use Rattle.pg_session.specs.Seen.{seen_of, unseen}
use Rattle.pg_session.specs.Watched.{Awaits}
use Rattle.pg_session.specs.Watching.{as_begun, noted}
use proofs.Begun.{begun_awaited, begun_noted}
use proofs.Telling.{news_more}
use Rattle.pg_session.proofs.session.Session.look.Goals as goal

pub returns-clause-told : goal.returns-clause-told
returns-clause-told g c =
    rw (← c.self.view_is)
    (news_more c.self.inside.news c.self.inside.news c.put_peers-told.new.self
    c.args.out.now.items c.put_stops.new.out.items c.put_peers-told.new.out.items
    (c.in_ok-put_stops.ensures c.self.inside.news) c.in_ok-told.ensures.told)

pub returns-clause-looked : goal.returns-clause-looked
returns-clause-looked g c =
    let room = c.deref-2.result.now in
    let before = c.self.inside.watches.items in
    let seen = c.self.inside.seen in
    let kept = c.core-core.ensures in
    let all : c.unseen.result ≡ unseen seen room.history room.forgotten =
    c.unseen.ensures.ok ∙ ap (λ h. unseen seen h c.core-core.result.now.forgotten) kept.history
    ∙ ap (unseen seen room.history) kept.forgotten in
    rw (← c.self.view_is) (record {
      room = room;
      sound = kept.sound;
      had = (rw (kept.history, kept.forgotten) at c.unseen.ensures.had);
      watches =
          c.tell_noted.ensures c.unseen.result before
          (c.note_news.ensures (subst (λ ws. Awaits [] ws c.of_many-watched.result ws)
          c.deref.ensures.value c.of_many-watched.ensures))
          ∙ ap (λ es. map (noted es) before) all;
      seen = c.of-seen.ensures ∙ ap seen_of kept.history;
      up =
          subst (λ h. list_any (has_gone h) c.put_peers-told.new.self.peers ≡ false) kept.history
          c.in_ok-told.ensures.up;
    })

pub returns-in_err-put_stops-clause-monitors : goal.returns-in_err-put_stops-clause-monitors
returns-in_err-put_stops-clause-monitors g c =
    let before = c.self.inside.watches.items in
    rw (← c.self.view_is)
    (begun_awaited c.unseen.result before c.note_news.new.watches.items c.note_news.new.watched
    (c.note_news.ensures (subst (λ ws. Awaits [] ws c.of_many-watched.result ws)
    c.deref.ensures.value c.of_many-watched.ensures)))

pub returns-clause-monitors : goal.returns-clause-monitors
returns-clause-monitors g c =
    let before = c.self.inside.watches.items in
    rw (← c.self.view_is)
    (ap (map as_begun) (c.tell_noted.ensures c.unseen.result before
    (c.note_news.ensures (subst (λ ws. Awaits [] ws c.of_many-watched.result ws)
    c.deref.ensures.value c.of_many-watched.ensures)))
    ∙ begun_noted c.unseen.result before)

pub returns-in_err-told-clause-monitors : goal.returns-in_err-told-clause-monitors
returns-in_err-told-clause-monitors g c =
    let before = c.self.inside.watches.items in
    rw (← c.self.view_is)
    (ap (map as_begun) (c.tell_noted.ensures c.unseen.result before
    (c.note_news.ensures (subst (λ ws. Awaits [] ws c.of_many-watched.result ws)
    c.deref.ensures.value c.of_many-watched.ensures)))
    ∙ begun_noted c.unseen.result before)
