-- Links that open: the new link follows its opening, and all others are as before.
use Rattle.node_core.proofs
use Rattle.policy_audit.proofs as policy
use proofs.Words.{Accepted, all_hold, all_left, all_reverse, AllByRecursion, ap, arith, Awaits}
use proofs.Words.{begun, ByDial, ByPeer, challenge_in, dial_checks, dialled_link, dialled_waiting}
use proofs.Words.{entered, Entry, eq-eqb, eqb-true, Event, facts, false, first_broken, Follows}
use proofs.Words.{History, is_accepted, is_full, is_kept, is_open, IsAlone, IsLinkOf, IsPlayed}
use proofs.Words.{IsStep, just, kept_count, kept_links, kept_opening, KeptLink, leb-true, length}
use proofs.Words.{length-map, link_words, LinksFollow, LinkState, List, list_all, listed, lt-ltb}
use proofs.Words.{map, map-append, narrow, nat_le, next_number, no_change, None, none_begun, not}
use proofs.Words.{not-true, opened_waiting, opening_waiting, option_map_or, own_flags, Parts, Pid}
use proofs.Words.{refl, Reply, running_scopes, same, scope_words, ScopesFollow, Some, Start}
use proofs.Words.{start_of, subst, sym, true, unbroken, ℕ, [], ◌++◌, ◌<◌, ◌==◌, ◌||◌, ◌∙◌, ◌∷◌, ◌≡◌}
use Rattle.handshake_frames.specs.Spelling.{name_bytes}
use policy.KeptLinks.{links_below}
use policy.Walked.{fresh, opens_number}
use policy.NewLinks.{IsNewLink, opened_apart, opened_new, opened_open}
use policy.HeardNow.{opening_heard}
use policy.RowsAfter.{dialled_rows, opened_rows}
use proofs.KeptOn.{facts_same, same_link}
use Rattle.policy_audit.specs.Sides.{awaited_in}
use proofs.Entered.{accepted_next, answered_by, made, step_follows}

-- ---- how many links are kept

pub kept_are : (h : History) (kept : List KeptLink) → LinksFollow (link_words h) kept
    → kept_links h ≡ length kept
kept_are h kept t = kept_count h ∙ ap length (sym t.numbers) ∙ length-map kept (λ x. x.number)

-- ---- the links after an opening

module _ (h : History) (legal : IsPlayed h) (e : Entry) (is_made : IsStep h e)
    (yes : is_accepted e.verdict ≡ true) (st : Start) (begins : start_of e.event ≡ Some st) where
  abbrev k : History
  k = just h e

  -- of every other link the same is said
  other_facts : (l : ℕ) → (e.number == l) ≡ false → facts k l ≡ facts h l
  other_facts l other =
      facts_same h k refl l (opened_apart h.entries e l st yes begins other)
      (opened_open h.entries e l st yes begins ∙ ap (λ b. b || is_open l h.entries) other)

  others_link : (x : KeptLink) → (e.number == x.number) ≡ false → IsLinkOf (link_words h) x
      → IsLinkOf (link_words k) x
  others_link x other it =
      same_link x (other_facts x.number other)
      (opening_waiting h legal e is_made yes st begins x.number other) it

  each_more : (new : KeptLink) → IsLinkOf (link_words k) new → (xs : List KeptLink)
      → list_all (λ n. nat_le n (entered h.entries)) (map (λ x. x.number) xs) ≡ true
      → AllByRecursion (IsLinkOf (link_words h)) xs
      → AllByRecursion (IsLinkOf (link_words k)) (xs ++ new ∷ [])
  each_more new it [] below all = (it, tt)
  each_more new it (x ∷ xs) below all =
      grind (
        arith,
        others_link x,
        opens_number h e is_made st begins,
        eqb-true,
        leb-true,
        each_more new it xs,
      )

  -- one link more
  pub new_follows : (kept : List KeptLink) (new : KeptLink) → LinksFollow (link_words h) kept
      → new.number ≡ e.number → IsLinkOf (link_words k) new
      → LinksFollow (link_words k) (kept ++ new ∷ [])
  new_follows kept new t named it = record {
    numbers = map-append (λ x. x.number) kept (new ∷ []) ∙ (λ i. t.numbers i ++ named i ∷ [])
        ∙ sym (kept_opening h legal e is_made yes st begins);
    each =
        each_more new it kept
        (ap (list_all (λ n. nat_le n (entered h.entries))) t.numbers
        ∙ all_reverse (λ n. nat_le n (entered h.entries)) _
        ∙ all_left (λ n. nat_le n (entered h.entries)) (is_kept h) _ (links_below h legal)) t.each;
  }

  -- what is said of the new one
  its : IsNewLink e.number h.entries k.entries st
  its =
      opened_new h.entries e e.number st yes begins h.opening legal
      (fresh h.opening h.entries legal e is_made) (eq-eqb e.number e.number refl)

  -- of which no message has begun
  unbegun : begun h.opening e.number k.entries ≡ None
  unbegun = none_begun h.opening k.entries (is_made, legal) e.number its.whole

  awaits_first : Awaits (facts k e.number) (awaited_in st []) false
  awaits_first = record {
    open_now = opened_open h.entries e e.number st yes begins
        ∙ ap (λ b. b || is_open e.number h.entries) (eq-eqb e.number e.number refl);
    whole = its.whole;
    awaited = its.awaits;
  }

  new_scopes : ((s g : List ℕ) (p : Pid) → listed k s g p ≡ listed h s g p)
      → running_scopes k ≡ running_scopes h → scope_words k ≡ scope_words h
  new_scopes rows running = λ i. record {
    own = h.opening.name;
    running = running i;
    listed = λ s g p. rows s g p i;
    heard = λ l s. (opening_heard h e yes legal is_made st begins l s).heard_is i;
    told = λ l s. (opening_heard h e yes legal is_made st begins l s).told_is i;
  }

-- ---- a link from a peer

module _ {h : History} {parts : Parts} (t : Follows h parts) (seat c : ℕ) where
  abbrev opening : Entry
  opening = made h seat (Event.Opened c) (Accepted (Reply.Link (next_number h))) []

  pub opened_now : is_full h ≡ false → length parts.links < 64 → (challenge room : ℕ)
      → challenge ≡ c
      → IsAlone h opening
      × Follows (just h opening)
      (record parts {
        links = parts.links ++ record {
          number = next_number h;
          state = LinkState.Name challenge;
          begun = None;
          frames = [];
          prepared = [];
          room = room;
        } ∷ [];
      })
  opened_now space few challenge room same =
      let legal = t.sound.played in
      let next = accepted_next h seat (Event.Opened c) space (Reply.Link (next_number h)) []
      (rw (lt-ltb (kept_links h) 64 (let is = kept_are h parts.links t.links in
      omega arith))) refl
      (λ its. no_change h (just h opening)
      (λ s g p. sym (opened_rows h legal opening its refl c refl s g p))) in
      let is = answered_by next in (
        next,
        step_follows t next refl t.admission t.processes
            (subst (λ w. ScopesFollow w parts.scopes)
            (sym (new_scopes h legal opening is refl (ByPeer c) refl
            (opened_rows h legal opening is refl c refl) refl)) t.scopes)
            (new_follows h legal opening is refl (ByPeer c) refl parts.links _ t.links refl
            (record {
              state = (
                awaits_first h legal opening is refl (ByPeer c) refl,
                same ∙ sym (ap (λ o. option_map_or (λ x. challenge_in x.start) o 0)
                    (its h legal opening is refl (ByPeer c) refl).opened),
              );
              begun = sym (unbegun h legal opening is refl (ByPeer c) refl);
              frames = sym (opened_waiting h opening is refl legal c refl);
              idle = refl;
            })),
      )

-- ---- a link to a peer

module _ {h : History} {parts : Parts} (t : Follows h parts) (seat : ℕ) (peer : List ℕ)
    (c : ℕ) where
  abbrev dial : Entry
  dial = made h seat (Event.Dial peer c) (Accepted (Reply.Link (next_number h))) []

  pub dialled_now : is_full h ≡ false → first_broken (dial_checks h peer) ≡ None → (link : KeptLink)
      → link ≡ dialled_link parts.admission (next_number h) peer c link.room
      → IsAlone h dial × Follows (just h dial) (record parts { links = parts.links ++ link ∷ [] })
  dialled_now space holds link made_so =
      let legal = t.sound.played in
      let next = accepted_next h seat (Event.Dial peer c) space (Reply.Link (next_number h)) []
      holds refl (λ its.
      no_change h (just h dial)
      (λ s g p. sym (dialled_rows h legal dial its refl peer c refl s g p))) in
      let is = answered_by next in
      let new = its h legal dial is refl (ByDial peer c) refl in (
        next,
        step_follows t next refl t.admission t.processes
            (subst (λ w. ScopesFollow w parts.scopes)
            (sym (new_scopes h legal dial is refl (ByDial peer c) refl
            (dialled_rows h legal dial is refl peer c refl) refl)) t.scopes)
            (subst (λ x. LinksFollow (link_words (just h dial)) (parts.links ++ x ∷ []))
            (sym made_so)
            (new_follows h legal dial is refl (ByDial peer c) refl parts.links
            (dialled_link parts.admission (next_number h) peer c link.room) t.links refl
            (record {
              state = (
                awaits_first h legal dial is refl (ByDial peer c) refl,
                record {
                  peer = record {
                    peer = new.peer;
                    other = not-true (same peer h.opening.name)
                        (unbroken (not (same peer h.opening.name))
                        (all_hold (dial_checks h peer) holds).0);
                  };
                  challenge = sym (ap (λ o. option_map_or (λ x. challenge_in x.start) o 0)
                      new.opened);
                },
              );
              begun = sym (unbegun h legal dial is refl (ByDial peer c) refl);
              frames = (λ i. narrow
                  (name_bytes (record {
                    flags = own_flags (t.admission.hidden i);
                    creation = t.admission.creation i;
                    name = t.admission.own i;
                    version = t.admission.links i;
                  })) ∷ [])
                  ∙ sym (dialled_waiting h dial is refl legal peer c refl);
              idle = refl;
            }))),
      )
