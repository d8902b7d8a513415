-- What the last frame of a handshake leads to, by the policy's words.
use Rattle.node_core.proofs
use proofs.Words.{ack_owed, admission_words, AdmissionFollows, AdmissionRules, agrees, answer, ap}
use proofs.Words.{arith, AwaitMessage, awaits, Bool, checks, discovers, Entry, eq-eqb, eqb-true}
use proofs.Words.{Event, facts, false, find, first_broken, frame_owes, given, Heard, Hears, History}
use proofs.Words.{is_accepted, is_last, is_open, is_peer, is_up, is_whole, IsIntroduced, IsLinkOf}
use proofs.Words.{IsOnward, IsPlayed, IsState, IsStep, just, kept_numbers, KeptLink, known_peer}
use proofs.Words.{lie, link_words, Linked, linked, LinksFollow, LinkState, List, narrow_frames}
use proofs.Words.{nat_eq, None, not, older_of, Option, option_map, option_map_or, peer_of, Pending}
use proofs.Words.{present_link, refl, Reply, reply_frame, rule_of, same, same_decides, Some, subst}
use proofs.Words.{sym, true, unwrap_or, up_peer, ℕ, ◌&&◌, ◌++◌, ◌∙◌, ◌≡◌}
use Rattle.policy_audit.specs.Sides.{is_visible}
use Rattle.policy_audit.proofs.Onward.{ack_taken, reply_taken}
use proofs.Found.{found_in, none_found, some_is}
use proofs.FrameRules.{digest_is, last_rules, other_facts, own_awaits, same_stay, still_introduced}
use Rattle.policy_audit.proofs.LinkFrames.{proved_links, replaced_by}
use Rattle.policy_audit.proofs.LinksLeft.{proved_numbers}
use proofs.MovedOn.{AreMoves, stays_but}
use proofs.LinkTests.{peer_by_test, up_by, up_is}
use proofs.HeardFrames.{by_all, is_last_state}

-- the link comes up with its last frame
pub record ComesUp (h : History) (j : ℕ) (body : List ℕ) (up : Linked)
    (frames : List (List ℕ)) : Type 0 where
  pub unwhole : is_whole j h.entries ≡ false
  pub last : is_last (awaits j h.entries) ≡ true
  pub known : IsIntroduced (facts h j) up.peer up.creation up.visible up.version up.proof
  pub holds : (seat : ℕ) → first_broken (checks h seat (Event.Frame j body)) ≡ None
  pub owes : frame_owes h j body (awaits j h.entries) ≡ narrow_frames frames ++ discovers h j
  pub on : (e : Entry) → IsStep h e → is_accepted e.verdict ≡ true → e.event ≡ Event.Frame j body
      → IsOnward j h.entries e (given j h.entries) (peer_of j h.entries) AwaitMessage true

module _ (h : History) (j : ℕ) (rules : AdmissionRules)
    (t : AdmissionFollows (admission_words h) rules) (body : List ℕ) (pending : Pending) where
  -- as it is heard in a state
  abbrev Comes : LinkState → Heard → Type 0
  Comes s (Heard.Up up frames) = ComesUp h j body up frames × (known_peer s ≡ Some up.peer)
  Comes s r = Unit {0}

  pub comes : (s : LinkState) → is_last_state s ≡ true → IsState (facts h j) s
      → (up : Linked) (frames : List (List ℕ)) → Hears rules pending s body (Heard.Up up frames)
      → ComesUp h j body up frames × (known_peer s ≡ Some up.peer)
  comes (LinkState.Reply s) q a up frames hears =
      by_all (Comes (LinkState.Reply s))
      (λ f. Heard.Up (linked s) (ack_owed rules s.peer f.challenge)) (reply_frame body) hears.1
      (λ f said. (
        record {
          unwhole = a.0.whole;
          last = ap is_last a.0.awaited;
          known = a.1;
          holds = λ seat. last_rules h rules t pending seat j body (LinkState.Reply s) q a
              ∙ ap (option_map rule_of) hears.0;
          owes = grind (arith, a, said, digest_is h rules t j s.peer f.challenge a.1.peer.peer);
          on = λ e answered yes named. reply_taken h e answered yes j body named a.0.awaited;
        },
        refl,
      ))
  comes (LinkState.Ack s) q a up frames hears = subst (Comes (LinkState.Ack s)) (some_is hears.1) (
    record {
      unwhole = a.0.whole;
      last = ap is_last a.0.awaited;
      known = a.1;
      holds = λ seat. last_rules h rules t pending seat j body (LinkState.Ack s) q a
          ∙ ap (option_map rule_of) hears.0;
      owes = grind (arith, a);
      on = λ e answered yes named. ack_taken h e answered yes j body named a.0.awaited;
    },
    refl,
  )
  comes s q a up frames hears = lie (sym q)

-- ---- what is answered, and whether the link is visible

module _ (h : History) (j : ℕ) (body : List ℕ) (up : Linked) (frames : List (List ℕ))
    (c : ComesUp h j body up frames) where
  pub visible_now : is_visible h j ≡ up.visible
  visible_now = grind (arith, c.known.said.1.said, c.known.said.1.visible_is)

  pub answered_up : (seat : ℕ) → answer h seat (Event.Frame j body)
      ≡ Reply.Up up.peer up.creation up.visible
  answered_up seat = grind (
    arith,
    c.last,
    c.known.peer.peer,
    c.known.said.1.said,
    c.known.said.1.creation_is,
    visible_now,
  )

-- ---- the kept links after one has come up: the older link of its peer is gone

module _ (h : History) (legal : IsPlayed h) (n : List ℕ) where
  -- a link of n that is up is the present one
  pub is_present : (l : ℕ) → is_up l h.entries ≡ true → is_peer n l h.entries ≡ true
      → present_link n h.entries ≡ Some l
  is_present l up of = (agrees h.opening h.entries legal n l).1 (
    up,
    peer_by_test n (peer_of l h.entries) of,
  )

  -- the link that is up with n, among those that are kept
  pub older_present : (kept : List KeptLink) → LinksFollow (link_words h) kept
      → older_of n kept ≡ present_link n h.entries
  older_present kept t =
      by (find (λ (y : KeptLink). option_map_or (λ m. same m n) (up_peer y.state) false) kept) refl
    where
      by : (x : Option KeptLink)
          → find (λ y. option_map_or (λ m. same m n) (up_peer y.state) false) kept ≡ x
          → option_map (λ y. y.number)
          (find (λ y. option_map_or (λ m. same m n) (up_peer y.state) false) kept)
          ≡ present_link n h.entries
      by None q = grind (
        arith,
        q,
        up_is h n legal kept t,
        none_found (λ (y : KeptLink). option_map_or (λ m. same m n) (up_peer y.state) false) kept
            q,
      )
      by (Some x) q =
          let found = found_in (λ (y : KeptLink). option_map_or (λ m. same m n) (up_peer y.state)
          false) (IsLinkOf (link_words h)) kept t.each x q in
          let both = sym (up_by h n x.number x.state found.1.state) ∙ found.0 in
          ap (option_map (λ (y : KeptLink). y.number)) q
          ∙ sym (is_present x.number (grind (arith, both)) (grind (arith, both)))

  module _ (j : ℕ) (unwhole : is_whole j h.entries ≡ false) where
    present : (l : ℕ) → present_link n h.entries ≡ Some l
        → (is_open l h.entries && replaced_by j n h.entries l) ≡ true
    present l p =
        let here = (agrees h.opening h.entries legal n l).0 p in
        let of = ap (λ x. option_map_or (λ k. same k n) x false) here.1
        ∙ (same_decides n n).1 refl in
        grind (arith, eqb-true j l, unwhole, here.0, of)

    -- the last frame of link j ends the present link of n, and no other
    pub replaced_is : (l : ℕ) → not (is_open l h.entries && replaced_by j n h.entries l)
        ≡ stays_but (present_link n h.entries) l
    replaced_is l = grind (arith, is_present l, present l, eqb-true, eq-eqb)

    -- what is so over links that are up alone, is so over those that stay: j itself is not up
    pub but_replaced : (l : ℕ) (b : Bool) → (b ≡ true → is_up l h.entries ≡ true)
        → (b && not (replaced_by j n h.entries l))
        ≡ (b && not (nat_eq l (unwrap_or (present_link n h.entries) j)))
    but_replaced l b up = grind (arith, up, replaced_is l, eqb-true l j, unwhole)

module _ (h : History) (legal : IsPlayed h) (j : ℕ) (body : List ℕ) (up : Linked)
    (frames : List (List ℕ)) (c : ComesUp h j body up frames)
    (e : Entry) (answered : IsStep h e) (yes : is_accepted e.verdict ≡ true)
    (is : e.event ≡ Event.Frame j body) where
  abbrev k : History
  k = just h e

  pub came_up_moves : AreMoves h k j (LinkState.Up up) (narrow_frames frames ++ discovers h j)
      (stays_but (present_link up.peer h.entries))
  came_up_moves = record {
    state =
        let on = c.on e answered yes is in (
          own_awaits answered yes is on
              (grind (
                arith,
                (proved_links h e answered yes j body is up.peer c.last c.known.peer.peer
                    j).open_is,
                eq-eqb j j refl,
              )),
          still_introduced answered yes is on c.known,
        );
    frames = grind (
      arith,
      (proved_links h e answered yes j body is up.peer c.last c.known.peer.peer j).waiting_is,
      eq-eqb j j refl,
      c.owes,
    );
    others = λ l apart q. other_facts answered yes is l apart
        (grind (
          arith,
          (proved_links h e answered yes j body is up.peer c.last c.known.peer.peer l).open_is,
          replaced_is h legal up.peer j c.unwhole l,
        ));
    waits = λ l apart q. grind (
      arith,
      (proved_links h e answered yes j body is up.peer c.last c.known.peer.peer l).waiting_is,
      replaced_is h legal up.peer j c.unwhole l,
    );
    numbers =
        proved_numbers h e yes answered j body is up.peer c.last c.known.peer.peer
        ∙ same_stay (λ l. not (is_open l h.entries && replaced_by j up.peer h.entries l))
        (stays_but (present_link up.peer h.entries)) (kept_numbers h)
        (replaced_is h legal up.peer j c.unwhole);
  }
