-- The node after an accepted frame that isn't the last of a handshake.
use Rattle.node_core.proofs
use proofs.Words.{Accepted, accepted_as, admission_words, AdmissionFollows, AdmissionRules, ap}
use proofs.Words.{arith, awaits, beside, Bool, challenge_frame, cond, dial_beside, dialled_peer}
use proofs.Words.{Entry, Event, facts, false, Follows, found, HaveEnded, HaveGoneOn, Heard}
use proofs.Words.{heard_named, Hears, History, is_dialled, is_dialling, is_full, is_handshake}
use proofs.Words.{is_last, is_name_up, is_whole, IsAlone, IsPlayed, IsState, IsStep, just, KeptLink}
use proofs.Words.{leb-true, length, lie, link_words, Linked, LinksFollow, LinkState, List, listed}
use proofs.Words.{name_frame, narrow_frames, no_change, None, Option, option_map, Parts, Pending}
use proofs.Words.{Pid, refl, Refused, Reply, reply_owed, Rule, rule_of, running_scopes}
use proofs.Words.{same_decides, scope_words, ScopesFollow, Some, state_checks, StatelessLink}
use proofs.Words.{status_of, status_owed, subst, sym, true, verdict, ℕ, [], ◌∙◌, ◌≡◌, ◌≤◌}
use Rattle.link_states.specs.Named.{named_by}
use Rattle.link_states.specs.Pending.{is_up}
use Rattle.policy_audit.proofs.Finished.{is_message}
use Rattle.policy_audit.proofs.HeardNow.{framed_heard}
use Rattle.policy_audit.proofs.RowsAfter.{unfinished_rows}
use proofs.EarlyMoves.{answer_moves, challenge_moves, Goes, name_goes, status_moves}
use proofs.Entered.{accepted_now, answered_now, made, next_now, step_follows}
use proofs.Found.{some_is}
use proofs.MovedOn.{moved_follow, still_unbegun}
use proofs.HeardFrames.{by_all, early_state, heard_leads, is_early, is_there}
use proofs.HeldLink.{beside_same, dials_beside, held_broke, held_moved, held_state, IsHeld}
use proofs.HeldLink.{ups_beside}
use proofs.FrameRules.{early_rules}
use Rattle.link_states.specs.Checks as state_checked

module _ (h : History) (seat j : ℕ) (body : List ℕ) where
  -- the entry
  abbrev pub e : Entry
  e = made h seat (Event.Frame j body) (Accepted Reply.Done) []

  abbrev pub k : History
  k = just h e

  module _ (answered : IsStep h e) (legal : IsPlayed h)
      (inner : is_last (awaits j h.entries) ≡ false)
      (unlike : is_message (awaits j h.entries) ≡ false) where
    same_rows : (s g : List ℕ) (p : Pid) → listed k s g p ≡ listed h s g p
    same_rows s g p = unfinished_rows h legal e answered refl j body refl unlike inner s g p

    early_next : is_full h ≡ false → Accepted Reply.Done ≡ verdict h seat (Event.Frame j body)
        → IsAlone h e
    early_next space holds =
        next_now h seat (Event.Frame j body) space (Accepted Reply.Done) [] holds
        (no_change h k (λ s g p. sym (same_rows s g p)))

    early_scopes : scope_words k ≡ scope_words h
    early_scopes = λ i. record {
      own = h.opening.name;
      running = running_scopes h;
      listed = λ s g p. same_rows s g p i;
      heard = λ l s. (framed_heard h legal e answered refl j body refl unlike inner l s).heard_is i;
      told = λ l s. (framed_heard h legal e answered refl j body refl unlike inner l s).told_is i;
    }

  module _ (rules : AdmissionRules) (t : AdmissionFollows (admission_words h) rules)
      (pending : Pending)
      (ups : (n : List ℕ) → is_up pending n ≡ is_name_up n h.entries) where
    -- the dials as they are known to a state that is none itself
    abbrev Dials : LinkState → Type 0
    Dials s = dialled_peer s ≡ None → (n : List ℕ) → is_dialled pending n ≡ is_dialling n h.entries

    early_accepted : is_full h ≡ false → (s : LinkState) → Dials s → is_early s ≡ true
        → IsState (facts h j) s
        → state_checked.first_broken (state_checks rules pending s body) ≡ None
        → Accepted Reply.Done ≡ verdict h seat (Event.Frame j body)
    early_accepted space s dials early a holds =
        accepted_now h seat (Event.Frame j body) space Reply.Done
        (early_rules h rules t pending seat j body ups s dials early a ∙ ap (option_map rule_of)
        holds)
        (grind (arith, a))

    module _ (answered : IsStep h e) (kept : List KeptLink) (follow : LinksFollow (link_words h)
        kept)
        (legal : IsPlayed h) (beside : LinkState → Option ℕ) where
      -- the state goes on as heard
      early_goes : (s : LinkState) → Dials s → is_early s ≡ true → IsState (facts h j) s
          → state_checked.first_broken (state_checks rules pending s body) ≡ None
          → (dialled_peer s ≡ None → (now : LinkState) → dial_beside now kept ≡ beside now)
          → (r : Heard) → accepted_as rules pending s body ≡ Some r → Goes h k j beside r
      early_goes (LinkState.Name c) dials early a holds same_dial r q = by_all (Goes h k j beside)
          (λ f. heard_named (named_by rules pending c f)) (name_frame body) q
          (λ f said. subst (λ b. Goes h k j b (heard_named (named_by rules pending c f)))
          (λ i now. same_dial refl now i)
          (name_goes h legal rules t e answered refl j body refl c a f said
          (grind (arith, holds, said, t.own)) kept follow (is_up pending f.name)
          (is_dialled pending f.name) (sym (ups f.name)) (sym (dials refl f.name))))
      early_goes (LinkState.Answer s) dials early a holds same_dial r q = subst (Goes h k j beside)
          (some_is q) (answer_moves h rules t e answered refl j body refl s a)
      early_goes (LinkState.Status dial) dials early a holds same_dial r q = by_all
          (Goes h k j beside) (λ w. Heard.On (LinkState.Challenge dial) (status_owed w) false)
          (status_of body) q
          (λ w said. status_moves h rules t e answered refl j body refl dial w said a)
      early_goes (LinkState.Challenge dial) dials early a holds same_dial r q =
          by_all (Goes h k j beside)
          (λ f. Heard.On (LinkState.Ack (found rules dial f))
          (reply_owed rules dial.peer dial.challenge f.challenge) false) (challenge_frame body)
          q
          (λ f asked. challenge_moves h rules t e answered refl j body refl dial f asked
          ((same_decides f.name dial.peer).0 (grind (arith, holds, asked))) a)
      early_goes s dials early a holds same_dial r q = lie (sym early)

-- ---- what an early frame of the handshake makes of a node: it goes on, or its link ends

module _ {h : History} {parts : Parts} (t : Follows h parts) (seat : ℕ) (body : List ℕ) {j p : ℕ}
    {v w out : KeptLink} {s : LinkState} {link : StatelessLink} {left : List KeptLink}
    (held : IsHeld h parts.links j p v w out s link left)
    (unwhole : is_whole j h.entries ≡ false) (inner : is_last (awaits j h.entries) ≡ false) where
  early : is_early s ≡ true
  early = early_state (facts h j) s (held_state t held) held.opens unwhole inner

  pub handshakes : is_handshake s ≡ true
  handshakes = grind (arith, early)

  module _ {links : List KeptLink} (these : links ≡ left) where
    abbrev pending : Pending
    pending = beside links

    pub early_never_up : (up_now : Linked) (frames : List (List ℕ))
        → Hears parts.admission pending s body (Heard.Up up_now frames) → ⊥
    early_never_up up_now frames hears =
        lie (sym (heard_leads parts.admission pending body s (Heard.Up up_now frames) hears.1)
        ∙ (grind (arith, early)))

    ups_so : (n : List ℕ) → is_up pending n ≡ is_name_up n h.entries
    ups_so n = ap (λ xs. is_up (beside xs) n) these ∙ ups_beside t held (grind (arith, early)) n

    dials_so : dialled_peer s ≡ None → (n : List ℕ) → is_dialled pending n ≡ is_dialling n h.entries
    dials_so none n = ap (λ xs. is_dialled (beside xs) n) these ∙ dials_beside t held none n

    module _ (now : LinkState) (frames : List (List ℕ)) (gives_up : Bool)
        (hears : Hears parts.admission pending s body (Heard.On now frames gives_up)) where
      pub early_few : length frames ≤ 2
      early_few = grind (
        arith,
        leb-true (length frames) 2,
        heard_leads parts.admission pending body s (Heard.On now frames gives_up) hears.1,
      )

      pub early_went_on : (new : List KeptLink) → HaveGoneOn p link now frames gives_up left new
          → IsAlone h (made h seat (Event.Frame j body) (Accepted Reply.Done) [])
          × Follows (just h (made h seat (Event.Frame j body) (Accepted Reply.Done) []))
          (record parts { links = new })
      early_went_on new on =
          let there = is_there t j held.at v in
          let unlike : is_message (awaits j h.entries) ≡ false =
          grind (arith, early, held_state t held) in
          let accepted = early_accepted h seat j body parts.admission t.admission pending ups_so
          held.space s dials_so early (held_state t held) hears.0 in
          let answered =
          answered_now h seat (Event.Frame j body) held.space (Accepted Reply.Done) [] accepted in
          let entered =
          early_next h seat j body answered t.sound.played inner unlike held.space accepted in
          let moves = early_goes h seat j body parts.admission t.admission pending ups_so answered
          parts.links t.links t.sound.played (λ state. dial_beside state left) s dials_so early
          (held_state t held) hears.0
          (λ none state. sym (beside_same t held none state)) (Heard.On now frames gives_up)
          hears.1 in (
            entered,
            step_follows t entered refl t.admission t.processes
                (subst (λ w. ScopesFollow w parts.scopes)
                (sym (early_scopes h seat j body answered t.sound.played inner unlike)) t.scopes)
                (subst (LinksFollow _)
                (sym (held_moved t held now (narrow_frames frames)
                (cond gives_up (dial_beside now left) None) new on))
                (moved_follow h _ t.sound.played j now (narrow_frames frames)
                (cond gives_up (dial_beside now left) None)
                (still_unbegun h t.sound.played (e h seat j body) j body refl unwhole) moves
                parts.links t.links p v there.0 there.1 on.room)),
          )

    module _ (r : Rule) (frames : List (List ℕ))
        (hears : Hears parts.admission pending s body (Heard.Ended r frames)) where
      pub early_broke : (new : List KeptLink) → HaveEnded p link frames left new
          → IsAlone h (made h seat (Event.Frame j body) (Refused r) [])
          × Follows (just h (made h seat (Event.Frame j body) (Refused r) []))
          (record parts { links = new })
      early_broke new ends = held_broke t held seat body unwhole parts.admission pending
          (early_rules h parts.admission t.admission pending seat j body ups_so s dials_so early
          (held_state t held)) r frames hears new ends
