-- The rules for a frame of the handshake, as a state knows them, are those of the policy.
use Rattle.node_core.proofs
use Rattle.policy_audit.proofs as policy
use proofs.Words.{admission_words, AdmissionFollows, AdmissionRules, always, and-true, ap, arith}
use proofs.Words.{Awaited, Awaits, awaits, Bool, challenge_in, checks, cond, cookie, cookie_of}
use proofs.Words.{dialled_peer, digest_for, Entry, entry_link, entry_rows, eq-eqb, eqb-true, Event}
use proofs.Words.{facts, false, filter, first_broken, flip, Follows, frame_checks, frame_owes}
use proofs.Words.{framed_numbers, get_or, given, has_bit, History, is_accepted, is_dialled}
use proofs.Words.{is_dialling, is_empty, is_full, is_gt, is_last, is_name_up, is_node_name, is_open}
use proofs.Words.{is_whole, IsAlone, IsIntroduced, IsOnward, IsPeer, IsState, IsStep, just}
use proofs.Words.{kept_numbers, KeptLink, length, lie, link_words, LinksFollow, LinkState, List}
use proofs.Words.{moved_on, Name, name_checks, name_frame, named_by, narrow_frames, no_change, None}
use proofs.Words.{not, Option, option_map, option_map_or, OutFrame, own_challenge, Parts, peer_of}
use proofs.Words.{Pending, refl, refusal_frames, refusal_owes, Refused, Rule, rule_of}
use proofs.Words.{running_scopes, same, same_sym, scope_words, ScopesFollow, set, Some}
use proofs.Words.{state_checks, StateRule, subst, sym, text_cmp, true, waiting, without_link, ℕ, []}
use proofs.Words.{◌&&◌, ◌++◌, ◌<◌, ◌==◌, ◌∙◌, ◌≡◌}
use Rattle.cookie_digest.specs.Digest.{digest_of}
use Rattle.link_states.specs.Pending.{is_up}
use proofs.Cookies.{cookie_is}
use proofs.LinkTests.{allowed_by}
use policy.Onward.{frame_open}
use policy.LinkFrames.{handshake_links, refused_links}
use proofs.KeptOn.{facts_same, filter_all, version_with}
use proofs.MovedOn.{AreMoves, moved_follow, stays_but, still_unbegun}
use policy.HeardNow.{refused_heard}
use policy.LinksLeft.{refused_numbers}
use proofs.Entered.{made, next_now, refused_now, step_follows}
use proofs.HeardFrames.{is_early, is_last_state}
use Rattle.link_states.specs.Checks as state

-- the rules for a Name, by what is tested
name_by : (modern dynamic word : Bool) {own own_too : Bool} → own ≡ own_too
    → {granted granted_too : Bool} → granted ≡ granted_too → {ranks ranks_too : Bool}
    → ranks ≡ ranks_too
    → cond (not modern) (Some Rule.NoHandshake23)
    (cond (not (not dynamic)) (Some Rule.DynamicName) (cond (not word) (Some Rule.BadName)
    (cond (not (not own)) (Some Rule.OwnName)
    (cond (not granted) (Some Rule.NotAllowed)
    (cond (not (not ranks)) (Some Rule.Simultaneous) None)))))
    ≡ option_map rule_of (cond (not modern) (Some StateRule.NoHandshake23)
    (cond (not (not dynamic)) (Some StateRule.DynamicName)
    (cond (not word) (Some StateRule.BadName)
    (cond (not (not own_too)) (Some StateRule.OwnName)
    (cond (not granted_too) (Some StateRule.NotAllowed)
    (cond (not (not ranks_too)) (Some StateRule.Simultaneous) None))))))
name_by modern dynamic word own granted ranks = grind arith

module _ (h : History) (rules : AdmissionRules)
    (t : AdmissionFollows (admission_words h) rules) where
  -- the digest that is awaited of a peer
  pub digest_is : (l : ℕ) (n : List ℕ) (c : ℕ) → peer_of l h.entries ≡ Some n
      → digest_for h l c ≡ digest_of (cookie_of rules n) c
  digest_is l n c of = ap (λ x. digest_of (option_map_or (cookie h) x []) c) of
      ∙ ap (λ k. digest_of k c) (sym (cookie_is h rules t n))

  name_rules : (pending : Pending) → ((n : List ℕ) → is_up pending n ≡ is_name_up n h.entries)
      → ((n : List ℕ) → is_dialled pending n ≡ is_dialling n h.entries) → (x : Option Name)
      → first_broken (option_map_or (name_checks h) x (always Rule.BadFrame))
      ≡ option_map rule_of (state.first_broken (state.name_checks rules pending x))
  name_rules pending ups dials None = refl
  name_rules pending ups dials (Some f) =
      name_by (has_bit 24 f.flags) (has_bit 33 f.flags) (is_node_name f.name)
      (ap (same f.name) (sym t.own)) (sym (allowed_by h rules t f.name))
      (λ i. not (sym (ups f.name) i) && sym (dials f.name) i
      && is_gt (text_cmp (sym t.own i) f.name))

  module _ (pending : Pending) (seat j : ℕ) (body : List ℕ) where
    -- a frame that isn't the last breaks the same rules
    pub early_rules : ((n : List ℕ) → is_up pending n ≡ is_name_up n h.entries) → (s : LinkState)
        → (dialled_peer s ≡ None → (n : List ℕ) → is_dialled pending n ≡ is_dialling n h.entries)
        → is_early s ≡ true → IsState (facts h j) s
        → first_broken (checks h seat (Event.Frame j body))
        ≡ option_map rule_of (state.first_broken (state_checks rules pending s body))
    early_rules ups (LinkState.Name c) dials q a =
        (λ i. first_broken (cond (a.0.open_now i) (frame_checks h j body (a.0.awaited i))
        (always Rule.NoSuchLink))) ∙ name_rules pending ups (dials refl) (name_frame body)
    early_rules ups (LinkState.Answer s) dials q a = grind (arith, a)
    early_rules ups (LinkState.Status dial) dials q a = grind (arith, a, ups dial.peer)
    early_rules ups (LinkState.Challenge dial) dials q a = grind (arith, a, same_sym dial.peer)
    early_rules ups s dials q a = lie (sym q)

    -- so does the last
    pub last_rules : (s : LinkState) → is_last_state s ≡ true → IsState (facts h j) s
        → first_broken (checks h seat (Event.Frame j body))
        ≡ option_map rule_of (state.first_broken (state_checks rules pending s body))
    last_rules (LinkState.Reply s) q a =
        grind (arith, a, digest_is j s.peer s.challenge a.1.peer.peer)
    last_rules (LinkState.Ack s) q a =
        grind (arith, a, digest_is j s.peer s.challenge a.1.peer.peer)
    last_rules s q a = lie (sym q)

-- ---- what an accepted frame makes of what is said of its own link and of the others

-- of a list the same stay by tests that agree
pub same_stay : (test more : ℕ → Bool) (xs : List ℕ) → ((l : ℕ) → test l ≡ more l)
    → filter test xs ≡ filter more xs
same_stay test more xs q = λ i. filter (λ l. q l i) xs

module _ {h : History} {e : Entry} (answered : IsStep h e) (yes : is_accepted e.verdict ≡ true)
    {j : ℕ} {body : List ℕ} (is : e.event ≡ Event.Frame j body) where
  abbrev k : History
  k = just h e

  pub other_facts : (l : ℕ) → (j == l) ≡ false → is_open l k.entries ≡ is_open l h.entries
      → facts k l ≡ facts h l
  other_facts l apart opens = facts_same h k refl l (entry_link h.entries e j l body is apart) opens

  module _ {gave : Option Name} {of : Option (List ℕ)} {next : Awaited} {ends : Bool}
      (on : IsOnward j h.entries e gave of next ends) where
    pub own_awaits : is_open j k.entries ≡ is_open j h.entries → Awaits (facts k j) next ends
    own_awaits opens = record {
      open_now = opens ∙ frame_open h e answered yes j body is;
      whole = on.whole;
      awaited = on.awaits;
    }

    pub same_challenge : own_challenge j k.entries ≡ own_challenge j h.entries
    same_challenge = ap (λ x. option_map_or (λ o. challenge_in o.start) x 0) on.opened

  -- what was known of the peer is known still
  pub still_dialled : {next : Awaited} {ends : Bool}
      (on : IsOnward j h.entries e (given j h.entries) (peer_of j h.entries) next ends)
      {name : List ℕ} → IsPeer (facts h j) name → IsPeer (facts k j) name
  still_dialled on a = record { peer = on.peer ∙ a.peer; other = a.other }

  pub still_introduced : {next : Awaited} {ends : Bool}
      (on : IsOnward j h.entries e (given j h.entries) (peer_of j h.entries) next ends)
      {name : List ℕ} {creation : ℕ} {visible : Bool} {version number : ℕ}
      → IsIntroduced (facts h j) name creation visible version number
      → IsIntroduced (facts k j) name creation visible version number
  still_introduced on a = record {
    peer = still_dialled on a.peer;
    said = (
      a.said.0,
      record {
        said = on.given ∙ a.said.1.said;
        name_is = a.said.1.name_is;
        creation_is = a.said.1.creation_is;
        visible_is = a.said.1.visible_is;
        version_is = a.said.1.version_is ∙ sym (ap (version_with h.opening.links) on.given);
      },
    );
    challenge = a.challenge ∙ sym (same_challenge on);
  }

  -- a frame that ends no link and isn't the last of its side
  module _ (inner : is_last (awaits j h.entries) ≡ false)
      (unnamed : named_by (awaits j h.entries) body ≡ None) where
    pub inner_moves : {gave : Option Name} {of : Option (List ℕ)} {next : Awaited} {ends : Bool}
        → IsOnward j h.entries e gave of next ends → (now : LinkState) (more : List OutFrame)
        → (Awaits (facts k j) next ends → IsState (facts k j) now)
        → frame_owes h j body (awaits j h.entries) ≡ more
        → AreMoves h k j now more (stays_but None)
    inner_moves on now more state owed = record {
      state = state
          (own_awaits on (handshake_links h e answered yes j body is inner unnamed j).open_is);
      frames = grind (
        arith,
        (handshake_links h e answered yes j body is inner unnamed j).waiting_is,
        eq-eqb j j refl,
        owed,
      );
      others = λ l apart stays. other_facts l apart
          (handshake_links h e answered yes j body is inner unnamed l).open_is;
      waits = λ l apart stays. grind (
        arith,
        (handshake_links h e answered yes j body is inner unnamed l).waiting_is,
      );
      numbers = framed_numbers h e yes answered j body is inner unnamed
          ∙ sym (filter_all (λ x. true) (λ x. refl) (kept_numbers h));
    }

-- ---- the node after a refused frame of the handshake

-- what a rule of the handshake is owed
pub owes_alike : (b : StateRule) → refusal_owes (rule_of b) ≡ narrow_frames (refusal_frames b)
owes_alike b = grind arith

module _ (h : History) (seat j : ℕ) (body : List ℕ) (r : Rule) where
  abbrev pub e : Entry
  e = made h seat (Event.Frame j body) (Refused r) []

  pub refused_next : is_full h ≡ false → first_broken (checks h seat (Event.Frame j body)) ≡ Some r
      → IsAlone h e
  refused_next space found =
      next_now h seat (Event.Frame j body) space (Refused r) []
      (refused_now h seat (Event.Frame j body) space r found)
      (no_change h (just h e) (λ s g p. sym (entry_rows h e refl s g p)))

  module _ (opens : is_open j h.entries ≡ true) (unwhole : is_whole j h.entries ≡ false)
      (more : List OutFrame) (owed : refusal_owes r ≡ more) where
    -- the link goes where nothing waits for it
    abbrev gone : Option ℕ
    gone = cond (is_empty (waiting h j ++ more)) (Some j) None

    stays_if : (l : ℕ) → not (j == l && is_empty (waiting h l ++ refusal_owes r)) ≡ stays_but gone l
    stays_if l = grind (arith, eqb-true j l, flip l j, owed)

    refused_moves : AreMoves h (just h e) j LinkState.Ended more (stays_but gone)
    refused_moves = record {
      state = grind (
        arith,
        (refused_links h e j body r refl refl unwhole j).open_is,
        eq-eqb j j refl,
      );
      frames = grind (
        arith,
        (refused_links h e j body r refl refl unwhole j).waiting_is,
        eq-eqb j j refl,
        owed,
      );
      others = λ l apart stays. λ i. record (facts h l) {
        open_now =
            ((refused_links h e j body r refl refl unwhole l).open_is
            ∙ ap (λ b. is_open l h.entries && not b) apart ∙ and-true (is_open l h.entries)) i;
      };
      waits = λ l apart stays. grind (
        arith,
        (refused_links h e j body r refl refl unwhole l).waiting_is,
      );
      numbers = refused_numbers h e j body r refl refl opens unwhole
          ∙ same_stay (λ l. not (j == l && is_empty (waiting h l ++ refusal_owes r)))
          (stays_but gone) (kept_numbers h) stays_if;
    }

    refused_scopes : scope_words (just h e) ≡ scope_words h
    refused_scopes = λ i. record {
      own = h.opening.name;
      running = running_scopes h;
      listed = λ s g p. entry_rows h e refl s g p i;
      heard = λ l s. (refused_heard h e j body r refl refl unwhole l s).heard_is i;
      told = λ l s. (refused_heard h e j body r refl refl unwhole l s).told_is i;
    }

    module _ (parts : Parts) (t : Follows h parts) (p : ℕ) (d : KeptLink)
        (less : p < length parts.links) (is : (get_or parts.links p d).number ≡ j) where
      pub refused_follows : IsAlone h e → (room : ℕ) (new : List KeptLink)
          → new ≡ without_link gone
          (set parts.links p (moved_on LinkState.Ended more room (get_or parts.links p d)))
          → Follows (just h e) (record parts { links = new })
      refused_follows next room new is_so = step_follows t next refl t.admission t.processes
          (subst (λ w. ScopesFollow w parts.scopes) (sym refused_scopes) t.scopes)
          (subst (LinksFollow (link_words (just h e))) (sym is_so)
          (moved_follow h _ t.sound.played j LinkState.Ended more gone
          (still_unbegun h t.sound.played e j body refl unwhole) refused_moves parts.links
          t.links p d less is room))
