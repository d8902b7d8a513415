-- A Discover that ends its link: too many frames would wait for it.
use Rattle.node_core.proofs
use Rattle.policy_audit.proofs as policy
use proofs.Words.{Accepted, and_both, and_parts, ap, AreCut, AreLost, arith, audit_of, AwaitMessage}
use proofs.Words.{begun, begun_with, Bool, Change, completed, cond, drop, Entry, entry_link, Event}
use proofs.Words.{false, filter, first_broken, Follows, frame_owes, frame_taken, framed_numbers}
use proofs.Words.{frames_to, get_or, get_or_default, heard, History, is_full, is_kept, is_last}
use proofs.Words.{is_number, is_open, is_up, is_whole, IsAlone, IsChange, IsLegal, IsNext, IsSound}
use proofs.Words.{IsStep, just, KeptLink, le-ltb, length, length-map, link_place, link_version}
use proofs.Words.{link_words, LinksFollow, List, local_rows, local_total, lose, loss, lt-ltb, map}
use proofs.Words.{max_rows, max_waiting, Message, Message2, message_checks, message_owes, named_by}
use proofs.Words.{nat_lt, no_value, None, not, option_and_then, OutFrame, PartKind, Parts, past}
use proofs.Words.{refl, Reply, reverse, Row, rules, Running, said_at, said_in, same, scope_place}
use proofs.Words.{set, Some, subst, suc, sym, sync_frames, takes_parts, true, up_peer, waiting}
use proofs.Words.{wide, with_entry, with_frames, without_number, zero, ℕ, [], ◌&&◌, ◌++◌, ◌+◌, ◌<◌}
use proofs.Words.{◌==◌, ◌∙◌, ◌∷◌, ◌≡◌, ◌≤◌}
use Rattle.std.proofs.lemmas.List.{length-append}
use Rattle.group_monitors.specs.Follows.{FollowsPolicy}
use policy.Onward.{message_taken_on}
use policy.LinkFrames.{IsLinkNow, lost_links, message_links}
use policy.LinksLeft.{lost_numbers}
use policy.HeardNow.{lost_heard}
use policy.HeardSaid.{discovered_heard}
use policy.MessageRows.{discovered_rows}
use policy.RowsAfter.{lost_rows}
use proofs.Entered.{made, sound_now}
use proofs.KeptOn.{place_is}
use proofs.Losing.{gone_change, gone_links, gone_scopes, IsGone, IsUpWith, RowsGone}
use proofs.SlowLinks.{is_slow_link, lost_opens, monitors_still, none_kept_slow, none_lost, one_slow}
use proofs.SlowLinks.{slow_are}
use proofs.MessagePlaces.{IsScopeHere, IsUpHere, scope_here, up_here}
use proofs.MessageKept.{its_answered, its_links, its_verdict}
use proofs.RowsGone.{rows_total}
use Rattle.link_frames.specs.Parts.{before_last, message2_bytes, parts as parts_of, parts_from}
use proofs.MessageScopes.{discovered_next, heard_there}

-- how many parts there are
parts_count : (kind : PartKind) (s : List ℕ) (number more : ℕ) (rows : List Row)
    → length (parts_from kind s number more rows) ≡ suc more
parts_count kind s number zero rows = refl
parts_count kind s number (suc more) rows =
    ap suc (parts_count kind s (suc number) more (drop max_rows rows))

sync_count : (parted : Bool) (s : List ℕ) (rows : List Row)
    → length (said_in (Message.Sync s rows) parted) ≡ sync_frames parted (length rows)
sync_count false s rows = refl
sync_count true s rows =
    length-map (parts_of (Message.Sync s rows))
    (λ part. record { wide = true; body = message2_bytes part })
    ∙ parts_count PartKind.Sync s 1 (before_last rows) rows ∙ omega arith

module _ {h : History} {parts : Parts} (t : Follows h parts) (legal : IsLegal h) (seat l : ℕ)
    (body : List ℕ) (space : is_full h ≡ false) (up : is_up l h.entries ≡ true)
    {pl : ℕ} {x : KeptLink} (placed : link_place l parts.links ≡ Some pl)
    (x_is : x ≡ get_or parts.links pl x)
    (s : List ℕ) {p : ℕ} {r : Running} (at : scope_place s parts.scopes ≡ Some p)
    (r_is : r ≡ get_or parts.scopes p r)
    (says : frame_taken h.opening l h.entries body ≡ Some (Message2.Discover s))
    (holds : first_broken (message_checks h l (Message2.Discover s)) ≡ None) where
  here : IsUpHere h l x
  here = up_here t l up placed x_is

  there : IsScopeHere h parts.scopes s p r
  there = scope_here t s at r_is

  on_link : said_at h.opening l h.entries body ≡ Some (Message.Discover s)
  on_link = ap (option_and_then (completed (begun h.opening l h.entries))) says

  abbrev e : List Change → Entry
  e cs = made h seat (Event.Frame l body) (Accepted Reply.Done) cs

  so : (cs : List Change) → IsStep h (e cs)
  so = its_answered h seat l body (Message2.Discover s) space up here.awaited says holds

  -- the link with all that would wait for it
  abbrev full : KeptLink
  full = begun_with (with_frames x (message_owes h l (Message2.Discover s))) None

  full_links : (cs : List Change)
      → LinksFollow (link_words (just h (e cs))) (set parts.links pl full)
  full_links cs =
      its_links h seat l body (Message2.Discover s) space up here.awaited says holds cs
      parts.links
      t.sound.played t.links pl x full placed here refl refl refl here.link.idle refl

  full_alone : filter is_slow_link (set parts.links pl full)
      ≡ cond (is_slow_link full) (full ∷ []) []
  full_alone =
      one_slow parts.links pl full (place_is parts.links l pl x placed).0
      (none_kept_slow h legal t.sound.played parts.links t.links)

  -- how many frames would wait
  abbrev many_now : ℕ
  many_now =
      length x.frames
      + (sync_frames (takes_parts x.state) (local_total r.table)
      + cond (is_number l r.heard.items) 0 1)

  full_is : is_slow_link full ≡ nat_lt max_waiting many_now
  full_is = grind (arith, long, here.is)
    where
      asks : Bool → List OutFrame
      asks b = cond b [] (wide (Message.Discover s) ∷ [])

      one : (b : Bool) → length (asks b) ≡ cond b 0 1
      one true = refl
      one false = refl

      sync : List OutFrame
      sync = frames_to h l (Message.Sync s (local_rows h s))

      parted : (link_version h.opening l h.entries == 2) ≡ takes_parts x.state
      parted =
          ap (λ v. v == 2) (sym here.introduced.said.1.version_is) ∙ ap takes_parts (sym here.is)

      long : length (x.frames ++ message_owes h l (Message2.Discover s)) ≡ many_now
      long =
          length-append x.frames (message_owes h l (Message2.Discover s))
          ∙ ap (λ n. length x.frames + n)
          (length-append sync (asks (heard h.opening l s h.entries))
          ∙ (λ i. sync_count (link_version h.opening l h.entries == 2) s (local_rows h s) i
          + one (heard h.opening l s h.entries) i)
          ∙ (λ i. sync_frames (parted i)
          (rows_total h s r there.named there.running t.sound.played i)
          + cond (sym (heard_there h s r there.named there.running l) i) 0 1))

  -- where they are few enough, the entry has no losses
  pub few_enough : many_now ≤ max_waiting → with_entry h (e []) ≡ just h (e [])
  few_enough few =
      none_lost h (e []) (so [], t.sound.played) (set parts.links pl full) (full_links [])
      (full_alone ∙ rw (full_is ∙ le-ltb max_waiting many_now few))

  -- else the link is lost with it
  module _ (many : max_waiting < many_now) (cs : List Change) where
    abbrev k : History
    k = just h (e cs)

    abbrev after : History
    after = past h.opening (loss l ∷ k.entries)

    with_loss : with_entry h (e cs) ≡ after
    with_loss =
        ap (λ ls. past h.opening (lose ls k.entries))
        (slow_are k (so cs, t.sound.played) (set parts.links pl full) (full_links cs)
        ∙ ap (λ xs. reverse (map (λ x. x.number) xs))
        (full_alone ∙ ap (λ b. cond b (full ∷ []) []) (full_is ∙ lt-ltb max_waiting many_now many))
        ∙ ap (λ n. n ∷ []) here.number)

    now_links : (j : ℕ)
        → IsLinkNow k j (is_open j h.entries)
        (cond (l == j) (waiting h j ++ frame_owes h j body AwaitMessage) (waiting h j))
        (is_kept h j)
    now_links j = message_links h (e cs) (so cs) refl l body refl here.awaited j

    gone : IsGone h after l
    gone = record {
      name = refl;
      same = λ j apart.
          let it = entry_link h.entries (e cs) l j body refl apart in
          search rules;
      opens = λ j.
          (lost_links k (loss l) refl l refl j).open_is
          ∙ ap (λ b. b && not (l == j)) (now_links j).open_is;
      waits = λ j.
          let it = lost_links k (loss l) refl l refl j in
          grind (arith, it.waiting_is, (now_links j).waiting_is);
      numbers =
          lost_numbers k (loss l) refl l refl
          ∙ ap (filter (λ j. not (l == j)))
          (framed_numbers h (e cs) refl (so cs) l body refl (ap is_last here.awaited)
          (ap (λ a. named_by a body) here.awaited));
      running = refl;
      heard = λ j u.
          let was =
          discovered_heard h t.sound.played (e cs) (so cs) refl l body refl here.awaited
          j u s on_link in
          let now = lost_heard k (loss l) refl l refl j u in
          grind (arith, was.heard_is, was.told_is, now.heard_is, now.told_is);
    }

    still_open : is_open l k.entries ≡ true
    still_open =
        (now_links l).open_is ∙ (and_parts (is_open l h.entries) (is_whole l h.entries) up).0

    still_up : IsUpWith k l here.far.peer
    still_up =
        let it = message_taken_on h (e cs) (so cs) refl l body refl here.awaited in
        record {
          up = and_both (is_open l k.entries) (is_whole l k.entries) still_open it.whole;
          peer = it.peer ∙ here.introduced.peer.peer;
          other = here.introduced.peer.other;
        }

    rows : RowsGone h after l gone (up_peer x.state)
    rows =
        let n = here.far.peer in
        let of = here.introduced.peer in
        subst (RowsGone h after l gone) (sym (ap up_peer here.is)) (λ u g q.
        lost_rows k (so cs, t.sound.played) (loss l) (lost_opens k l still_open) refl l n refl
        still_up.up still_up.peer still_up.other u g q
        ∙ ap (cond (same q.node n) 0)
        (discovered_rows h t.sound.played (e cs) (so cs) refl l body refl n here.awaited
        of.peer of.other s on_link u g q))

    alone : IsAlone h (e [])
    alone = discovered_next t seat l body space up placed x_is s r at r_is says holds

    monitors : FollowsPolicy (audit_of after) parts.monitors
    monitors =
        monitors_still h seat (Event.Frame l body) (Accepted Reply.Done) cs parts.monitors
        t.monitors refl

    sound : IsSound after
    sound =
        let it = sound_now h (e []) t.sound alone in
        record {
          played = (lost_opens k l still_open, (so cs, t.sound.played));
          fits = t.sound.fits;
          few = it.few;
          few_spawned = it.few_spawned;
          links = t.sound.links;
        }

    lost_next : AreLost (up_peer x.state) parts.scopes cs → IsNext h (e cs)
    lost_next lost = record {
      room = alone.room;
      number = refl;
      verdict = its_verdict h seat l body (Message2.Discover s) space up here.awaited says
          holds cs;
      change =
          subst (λ k. IsChange h k cs) (sym with_loss)
          (gone_change h after l gone (up_peer x.state) rows parts.scopes cs lost t.scopes);
    }

    lost_follows : (scopes : List Running) → AreCut l (up_peer x.state) parts.scopes scopes
        → Follows after (record parts { scopes = scopes; links = without_number l parts.links })
    lost_follows scopes cuts = record {
      sound = sound;
      admission = t.admission;
      processes = t.processes;
      scopes =
          gone_scopes h after l gone (up_peer x.state)
          (λ none. no_value (sym (ap up_peer here.is) ∙ none)) rows
          parts.scopes scopes cuts t.scopes;
      links = gone_links h after l gone parts.links t.links;
      monitors = monitors;
    }

    -- seen again at its place
    again : {y : KeptLink} → y ≡ get_or parts.links pl y → y ≡ x
    again {y} is =
        is ∙ get_or_default parts.links pl y x (place_is parts.links l pl x placed).0 ∙ sym x_is

    pub fell_behind : {y z : KeptLink} → y ≡ get_or parts.links pl y → z ≡ get_or parts.links pl z
        → AreLost (up_peer y.state) parts.scopes cs → {scopes : List Running}
        → AreCut z.number (up_peer z.state) parts.scopes scopes
        → IsNext h (e cs) × Follows (with_entry h (e cs))
        (record parts { scopes = scopes; links = without_number l parts.links })
    fell_behind y_is z_is lost {scopes} cuts = (
      lost_next
          (subst (λ (w : KeptLink). AreLost (up_peer w.state) parts.scopes cs) (again y_is) lost),
      subst
          (λ k. Follows k (record parts { scopes = scopes; links = without_number l parts.links }))
          (sym with_loss)
          (lost_follows scopes
          (subst (λ n. AreCut n (up_peer x.state) parts.scopes scopes) here.number
          (subst (λ (w : KeptLink). AreCut w.number (up_peer w.state) parts.scopes scopes)
          (again z_is) cuts))),
    )
