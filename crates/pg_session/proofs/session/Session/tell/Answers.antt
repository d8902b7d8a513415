use Rattle.pg_session.specs
use Rattle.std.proofs.Common.{ap, inr, List, map, subst, ℕ, ◌∙◌, ◌≡◌}
use specs.Asked.{is_fetch}
use specs.Calls.{GoesOnBy, Seat}
use specs.Looking.{IsBroken}
use specs.Notices.{Known}
use specs.Watching.{aged, AllAsked, as_begun}
use specs.declared.watch.Watch.{Watch}
use Rattle.node_threads.specs.Calls.{Record}
use Rattle.pg_session.proofs.Begun.{begun_aged}
use Rattle.pg_session.proofs.Callers.{on_err}
use Rattle.pg_session.proofs.Telling.{all_told, news_more, tells_then}
use Rattle.pg_session.proofs.session.Session.tell.Goals as goal

asked_alike : (p p' q : Record) (ws vs all : List Watch) (n m : ℕ) → p ≡ q → ws ≡ vs → n ≡ m
    → AllAsked p ws n p' all → AllAsked q vs m p' all
asked_alike p p' q ws vs all n m pass same number asked =
    subst (λ k. AllAsked q vs k p' all) number
    (subst (λ x. AllAsked q x n p' all) same (subst (λ x. AllAsked x ws n p' all) pass asked))

pub returns-clause-told : goal.returns-clause-told
returns-clause-told g c =
    let same = ap (λ (s : Seat). s.pass) c.self-2.view_is ∙ ap (λ (s : Seat). s.pass)
    c.look.ensures.rest ∙ ap (λ (s : Seat). s.pass) c.self.view_is in
    let from = ap (λ (s : Seat). s.known) c.self.view_is in
    let to = ap (λ (s : Seat). s.known) c.self-2.view_is in
    let news = news_more c.self.inside.news c.put_restart.new.self c.look.new.self.known
    c.args.out.now.items c.put_restart.new.out.items c.look.new.out.items
    c.in_ok-put_restart.ensures.told c.in_ok-look.ensures.told in
    tells_then c.args.self.now.pass c.self-2.inside.caller c.tell_all.new.caller
    c.args.self.now.known c.self.inside.news c.look.new.self.known c.self-2.inside.news
    c.args.out.now.items c.look.new.out.items c.tell_all.new.out.items same from to news
    (c.in_ok-tell_all.ensures.told c.self-2.inside.news)

pub returns-clause-done : goal.returns-clause-done
returns-clause-done g c =
    let to = ap (λ (s : Seat). s.known) c.self-2.view_is in
    let told = c.in_ok-look.ensures.told c.self.inside.caller in
    ap (λ (k : Known). k.anew) to ∙ all_told c.put_restart.new.self c.look.new.self.known
    told.notices told.becomes c.in_ok-put_restart.ensures.done

pub returns-clause-monitors : goal.returns-clause-monitors
returns-clause-monitors g c =
    let mid = c.look.new.self in
    let looked = c.in_ok-look.ensures.looked in
    let told = c.in_ok-tell_all.ensures.asked in
    let pass = ap (λ (s : Seat). s.pass) c.self-2.view_is
    ∙ ap (λ (s : Seat). s.pass) c.look.ensures.rest in
    let watches = c.note_ages.ensures
    ∙ ap (λ (s : Seat). map (aged c.args.stale) s.watches) c.self-2.view_is in
    let entries = c.entries.ensures ∙ ap (λ (s : Seat). s.seen.entries) c.self-2.view_is in
    rw (← c.self.view_is) (record {
      mid = mid;
      looked = record {
        room = looked.room;
        sound = looked.sound;
        had = looked.had;
        watches = looked.watches;
        seen = looked.seen;
        up = looked.up;
      };
      all = told.0;
      asked =
          asked_alike c.self-2.inside.caller c.tell_all.new.caller c.self.inside.caller _ _
          told.0 _ _ pass watches entries told.1;
      left = told.2;
      seen = ap (λ (s : Seat). s.seen) c.self-2.view_is;
      known = ap (λ (s : Seat). s.known) c.self-2.view_is;
    })

pub returns-clause-asks : goal.returns-clause-asks
returns-clause-asks g c =
    let pass = ap (λ (s : Seat). s.pass) c.self-2.view_is
    ∙ ap (λ (s : Seat). s.pass) c.look.ensures.rest in
    rw (← c.self.view_is)
    (subst (λ p. GoesOnBy is_fetch p c.tell_all.new.caller) pass c.tell_all.ensures.goes)

pub returns-in_err-tell_all-clause-asks : goal.returns-in_err-tell_all-clause-asks
returns-in_err-tell_all-clause-asks g c =
    let pass = ap (λ (s : Seat). s.pass) c.self-2.view_is
    ∙ ap (λ (s : Seat). s.pass) c.look.ensures.rest in
    rw (← c.self.view_is)
    (subst (λ p. GoesOnBy is_fetch p c.tell_all.new.caller) pass c.tell_all.ensures.goes)

pub returns-in_err-tell_all-clause-memory : goal.returns-in_err-tell_all-clause-memory
returns-in_err-tell_all-clause-memory g c =
    let mid = c.look.new.self in
    let looked = c.in_ok-look.ensures.looked in
    let before : Seat = record {
      pass = c.self.inside.caller;
      own = c.self.inside.processes;
      taken = c.self.inside.is_open;
      known = c.self.inside.news;
      watches = c.self.inside.watches.items;
      seen = c.self.inside.seen;
    } in
    let after : Seat = record {
      pass = c.tell_all.new.caller;
      own = c.self-2.inside.processes;
      taken = c.self-2.inside.is_open;
      known = c.self-2.inside.news;
      watches = c.tell_all.new.watches.items;
      seen = c.self-2.inside.seen;
    } in
    let broken : IsBroken before after = record {
      monitors =
          c.in_err-tell_all.ensures.memory ∙ ap (map as_begun) c.note_ages.ensures
          ∙ begun_aged c.args.stale _
          ∙ ap (λ (s : Seat). map as_begun s.watches) c.self-2.view_is
          ∙ c.look.ensures.monitors;
      seen = inr (
        mid,
        record {
          room = looked.room;
          sound = looked.sound;
          had = looked.had;
          watches = looked.watches;
          seen = looked.seen;
          up = looked.up;
        },
        ap (λ (s : Seat). s.seen) c.self-2.view_is,
      );
    } in
    rw (← c.self.view_is) (on_err _ broken)
