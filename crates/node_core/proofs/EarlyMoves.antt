-- What an accepted Status, Challenge or answer to `alive` makes of its link.
use Rattle.node_core.proofs
use Rattle.policy_audit.proofs as policy
use proofs.Words.{admission_words, AdmissionFollows, AdmissionRules, ap, arith, AwaitAnswer}
use proofs.Words.{AwaitReply, Awaits, Bool, Challenge, challenge_frame, cond, dial_beside, dial_to}
use proofs.Words.{Dialled, dialled_peer, Entry, eq-eqb, eqb-true, Event, facts, false, found, given}
use proofs.Words.{has_bit, Heard, heard_named, History, if◌then◌else◌, Introduced, introduced}
use proofs.Words.{is_accepted, is_dialling, is_last, is_name_up, is_open, is_visible, IsIntroduced}
use proofs.Words.{IsLinkOf, IsPlayed, IsState, IsStep, just, kept_numbers, KeptLink, lie}
use proofs.Words.{link_words, LinksFollow, LinkState, List, Name, name_frame, Named, named_by}
use proofs.Words.{narrow, narrow_frames, nat_eq, None, not, Option, option_map, option_map_or}
use proofs.Words.{OutFrame, own_challenge, own_challenge_frame, own_flags, refl, same, Some}
use proofs.Words.{status_of, StatusWord, subst, sym, true, welcome, ℕ, [], ◌&&◌, ◌∙◌, ◌∷◌, ◌≡◌}
use Rattle.handshake_frames.specs.Spelling.{challenge_bytes}
use Rattle.link_states.specs.Peer.{link_version}
use Rattle.policy_audit.specs.Hearing.{link_version as version_of_link}
use policy.Onward.{answer_taken, challenge_taken, hello_of, name_taken, status_taken}
use proofs.FrameRules.{digest_is, inner_moves, other_facts, own_awaits, same_challenge, same_stay}
use proofs.FrameRules.{still_dialled, still_introduced}
use proofs.KeptOn.{version_with}
use proofs.MovedOn.{AreMoves, stays_but}
use policy.LinkFrames.{given_up_by, named_links}
use policy.LinksLeft.{named_numbers}
use proofs.Found.{found_in, none_found}
use proofs.OneDial.{dials, is_known_dial, one_dial}
use proofs.LinkTests.{dialled_by, dialling_is}
use Rattle.link_states.specs.Frames as owes
use Rattle.link_states.specs.Named as says

module _ (h : History) (rules : AdmissionRules)
    (t : AdmissionFollows (admission_words h) rules) where
  -- the own challenge as a frame
  pub own_challenge_is : (j : ℕ) (c : ℕ) → c ≡ own_challenge j h.entries
      → own_challenge_frame h j ≡ narrow (owes.own_challenge rules c)
  own_challenge_is j c q =
      sym (λ i. narrow
      (challenge_bytes (record {
        flags = own_flags (t.hidden i);
        challenge = q i;
        creation = t.creation i;
        name = t.own i;
        version = t.links i;
      })))

  -- whether the link is visible
  pub visible_is : (flags : ℕ) → is_visible rules flags ≡ (not h.opening.hidden && has_bit 0 flags)
  visible_is flags = grind (arith, t.hidden)

  -- and its version, behind the frame with which the peer gave its own
  pub version_is : (f : Name) (j : ℕ) (e : Entry) → given j (e ∷ h.entries) ≡ Some f
      → link_version rules f.version ≡ version_of_link h.opening j (e ∷ h.entries)
  version_is f j e gave = λ i. version_with (t.links i) (sym gave i)

  module _ (e : Entry) (answered : IsStep h e) (yes : is_accepted e.verdict ≡ true) (j : ℕ)
      (body : List ℕ) (is : e.event ≡ Event.Frame j body) where
    abbrev k : History
    k = just h e

    pub answer_moves : (s : Introduced) → IsState (facts h j) (LinkState.Answer s)
        → AreMoves h k j (LinkState.Reply s)
        (narrow_frames (owes.own_challenge rules s.challenge ∷ [])) (stays_but None)
    answer_moves s a =
        let on = answer_taken h e answered yes j body is a.0.awaited in
        inner_moves answered yes is (ap is_last a.0.awaited)
        (ap (λ x. named_by x body) a.0.awaited) on (LinkState.Reply s)
        (narrow_frames (owes.own_challenge rules s.challenge ∷ []))
        (λ w. (
          w,
          still_introduced answered yes is on a.1,
        ))
        (grind (arith, a.0.awaited, own_challenge_is j s.challenge a.1.challenge))

    pub status_moves : (dial : Dialled) (w : StatusWord) → status_of body ≡ Some w
        → IsState (facts h j) (LinkState.Status dial)
        → AreMoves h k j (LinkState.Challenge dial) (narrow_frames (owes.status_owed w))
        (stays_but None)
    status_moves dial w said a =
        let on = status_taken h e answered yes j body is a.0.awaited in
        inner_moves answered yes is (ap is_last a.0.awaited)
        (ap (λ x. named_by x body) a.0.awaited) on (LinkState.Challenge dial)
        (narrow_frames (owes.status_owed w))
        (λ w. (
          w,
          record {
            peer = still_dialled answered yes is on a.1.peer;
            challenge = a.1.challenge ∙ sym (same_challenge answered yes is on);
          },
        ))
        (grind (arith, a.0.awaited, said))

    pub challenge_moves : (dial : Dialled) (f : Challenge) → challenge_frame body ≡ Some f
        → f.name ≡ dial.peer → IsState (facts h j) (LinkState.Challenge dial)
        → AreMoves h k j (LinkState.Ack (found rules dial f))
        (narrow_frames (owes.reply_owed rules dial.peer dial.challenge f.challenge))
        (stays_but None)
    challenge_moves dial f asked named a =
        let on = challenge_taken h e answered yes j body is f a.0.awaited asked in
        inner_moves answered yes is (ap is_last a.0.awaited)
        (ap (λ x. named_by x body) a.0.awaited) on (LinkState.Ack (found rules dial f))
        (narrow_frames (owes.reply_owed rules dial.peer dial.challenge f.challenge)) (λ w. (
          w,
          record {
            peer = record { peer = on.peer ∙ a.1.peer.peer; other = a.1.peer.other };
            said = (
              hello_of f,
              record {
                said = on.given;
                name_is = named;
                creation_is = refl;
                visible_is = visible_is f.flags;
                version_is = version_is (hello_of f) j e on.given;
              },
            );
            challenge = a.1.challenge ∙ sym (same_challenge answered yes is on);
          },
        ))
        (grind (
          arith,
          a.0.awaited,
          asked,
          a.1.challenge,
          digest_is h rules t j dial.peer f.challenge a.1.peer.peer,
        ))

-- ---- what an accepted Name makes of its link, and of the own dial to that peer

-- the link moves on as heard
abbrev pub Goes : History → History → ℕ → (LinkState → Option ℕ) → Heard → Type 0
Goes h k j beside (Heard.On now frames gives_up) =
    AreMoves h k j now (narrow_frames frames) (stays_but (cond gives_up (beside now) None))
Goes h k j beside r = Unit {0}

-- the own dial among the kept links
pub find_dial : (h : History) → IsPlayed h → (kept : List KeptLink)
    → LinksFollow (link_words h) kept → (n : List ℕ) → is_dialling n h.entries ≡ true
    → (d : ℕ) × (option_map (λ x. x.number) (dial_to n kept) ≡ Some d)
    × (dials n h.entries d ≡ true)
find_dial h legal kept t n q = by (dial_to n kept) refl
  where
    by : (o : Option KeptLink) → dial_to n kept ≡ o
        → (d : ℕ) × (option_map (λ x. x.number) (dial_to n kept) ≡ Some d)
        × (dials n h.entries d ≡ true)
    by None e = lie (sym q ∙ sym (dialling_is h n legal kept t)
        ∙ none_found (λ x. option_map_or (λ m. same m n) (dialled_peer x.state) false) kept e)
    by (Some x) e =
        let here = found_in (λ x. option_map_or (λ m. same m n) (dialled_peer x.state) false)
        (IsLinkOf (link_words h)) kept t.each x e in (
          x.number,
          ap (option_map (λ (y : KeptLink). y.number)) e,
          sym (dialled_by h n x.number x.state here.1.state) ∙ here.0,
        )

module _ (h : History) (legal : IsPlayed h) (rules : AdmissionRules)
    (t : AdmissionFollows (admission_words h) rules) (e : Entry) (answered : IsStep h e)
    (yes : is_accepted e.verdict ≡ true)
    (j : ℕ) (body : List ℕ) (is : e.event ≡ Event.Frame j body) (c : ℕ)
    (a : IsState (facts h j) (LinkState.Name c)) (f : Name) (said : name_frame body ≡ Some f)
    (other : same f.name h.opening.name ≡ false) where
  kept_open : (l : ℕ) → (is_open l h.entries && given_up_by j f h.entries l) ≡ false
      → is_open l (just h e).entries ≡ is_open l h.entries
  kept_open l q =
      grind (arith, (named_links h e answered yes j body is f a.0.awaited said l).open_is)

  introduced_now : IsIntroduced (facts (just h e) j) f.name f.creation (is_visible rules f.flags)
      (link_version rules f.version) c
  introduced_now =
      let on = name_taken h e answered yes j body is f a.0.awaited said in
      record {
        peer = record { peer = on.peer; other = other };
        said = (
          f,
          record {
            said = on.given;
            name_is = refl;
            creation_is = refl;
            visible_is = visible_is h rules t f.flags;
            version_is = version_is h rules t f j e on.given;
          },
        );
        challenge = a.1 ∙ sym (same_challenge answered yes is on);
      }

  name_moves : (next : LinkState) (more : List OutFrame) (gone : Option ℕ)
      → IsState (facts (just h e) j) next → welcome h j f.name ≡ more
      → ((l : ℕ) → (is_open l h.entries && given_up_by j f h.entries l) ≡ not (stays_but gone l))
      → AreMoves h (just h e) j next more (stays_but gone)
  name_moves next more gone state frames ends = record {
    state = state;
    frames = grind (
      arith,
      (named_links h e answered yes j body is f a.0.awaited said j).waiting_is,
      eq-eqb j j refl,
      frames,
    );
    others = λ l apart stays. other_facts answered yes is l apart
        (kept_open l (ends l ∙ ap not stays));
    waits = λ l apart stays. grind (
      arith,
      (named_links h e answered yes j body is f a.0.awaited said l).waiting_is,
      ends l,
    );
    numbers = named_numbers h e yes answered j body is f a.0.awaited said
        ∙ same_stay (λ l. not (is_open l h.entries && given_up_by j f h.entries l)) (stays_but gone)
        (kept_numbers h) (λ l. grind (arith, ends l));
  }

  where_dialled : is_name_up f.name h.entries ≡ false → (d : ℕ) → dials f.name h.entries d ≡ true
      → (l : ℕ) → (is_open l h.entries && given_up_by j f h.entries l) ≡ nat_eq l d
  where_dialled down d here l =
      grind (
        arith,
        one_dial h legal f.name l d,
        eqb-true l d,
        eqb-true j l,
        eq-eqb l d,
        dialled_by h f.name j (LinkState.Name c) a,
      )

  -- what the state makes of the Name
  abbrev named_of : Bool → Bool → Named
  named_of up dialled =
      let frames = owes.greeting_owed rules c (says.welcome up dialled) in
      if up then Named.Alive (introduced rules c f) frames else Named.Reply (introduced rules c f)
      frames dialled

  module _ (kept : List KeptLink) (follow : LinksFollow (link_words h) kept) where
    awaited : (up : Bool) → is_name_up f.name h.entries ≡ up
        → Awaits (facts (just h e) j) (cond up AwaitAnswer AwaitReply) false
    awaited up u =
        subst (λ b. Awaits (facts (just h e) j) (cond b AwaitAnswer AwaitReply) false) u
        (own_awaits answered yes is
        (name_taken h e answered yes j body is f a.0.awaited said)
        (kept_open j (grind (arith, eq-eqb j j refl))))

    pub name_goes : (up dialled : Bool) → is_name_up f.name h.entries ≡ up
        → is_dialling f.name h.entries ≡ dialled
        → Goes h (just h e) j (λ now. dial_beside now kept) (heard_named (named_of up dialled))
    name_goes true dialled u d =
        name_moves (LinkState.Answer (introduced rules c f))
        (narrow_frames (owes.greeting_owed rules c StatusWord.Alive)) None
        (awaited true u, introduced_now) (grind (arith, u)) (λ l. grind (arith, u))
    name_goes false false u d =
        name_moves (LinkState.Reply (introduced rules c f))
        (narrow_frames (owes.greeting_owed rules c (says.welcome false false))) None
        (awaited false u, introduced_now) (grind (arith, u, d, own_challenge_is h rules t j c a.1))
        (λ l. grind (arith, d, is_known_dial f.name h.entries l))
    name_goes false true u d =
        let dial = find_dial h legal kept follow f.name d in
        subst (λ gone. AreMoves h (just h e) j (LinkState.Reply (introduced rules c f))
        (narrow_frames (owes.greeting_owed rules c (says.welcome false true))) (stays_but gone))
        (sym dial.1)
        (name_moves (LinkState.Reply (introduced rules c f))
        (narrow_frames (owes.greeting_owed rules c (says.welcome false true))) (Some dial.0)
        (awaited false u, introduced_now) (grind (arith, u, d, own_challenge_is h rules t j c a.1))
        (λ l. grind (arith, where_dialled u dial.0 dial.2 l)))
