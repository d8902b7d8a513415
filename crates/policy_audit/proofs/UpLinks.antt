-- The present link of a peer is the one link of it that is up.
use Rattle.policy_audit.proofs
use proofs.Words.{Accepted, ap, arith, awaits, Bool, ByDial, ByPeer, cond, Entry, eq-eqb}
use proofs.Words.{eqb-true, Event, false, frame_ends, gives_up, is_last, is_open, is_peer, is_up}
use proofs.Words.{is_visible, is_whole, IsPlayedIn, judgement, List, None, not, Opened}
use proofs.Words.{opened, Opening, Option, past, peer_of, present_link, refl, Refused, Reply}
use proofs.Words.{same_decides, same_sym, Some, Start, subst, sym, Taken, taken, true, unwrap_or}
use proofs.Words.{up_answer, Verdict, ℕ, [], ◌&&◌, ◌==◌, ◌||◌, ◌↔◌, ◌∙◌, ◌∷◌, ◌≡◌}
use proofs.Accepted.{accepted, lie, no_value, peer_by}
use proofs.Walked.{but, Far, far, frame_fits, fresh}
use proofs.Finished.{Completed, completed, kept, stays, whole_by}

-- ---- Booleans

pub and_both : (a b : Bool) → a ≡ true → b ≡ true → (a && b) ≡ true
and_both a b p q = ap (λ x. x && b) p ∙ q

pub and_false : (a : Bool) → (a && false) ≡ false
and_false a = grind arith

pub flip : (a b : ℕ) → (a == b) ≡ (b == a)
flip a b = grind (arith, eqb-true, eq-eqb)

pub value_of : (x y : List ℕ) → Some x ≡ Some y → x ≡ y
value_of x y q = ap (λ o. unwrap_or o []) q

pub number_of : (x y : ℕ) → Some x ≡ Some y → x ≡ y
number_of x y q = ap (λ o. unwrap_or o 0) q

-- ---- the law

-- of a name: its present link is each link of it that is up
abbrev pub Agrees : List Entry → List ℕ → Type 0
Agrees es n = (l : ℕ)
    → (present_link n es ≡ Some l) ↔ ((is_up l es ≡ true) × (peer_of l es ≡ Some n))

module _ (es : List Entry) (n : List ℕ) where
  -- an entry that leaves the links that are up
  pub unchanged : (x : Entry) → present_link n (x ∷ es) ≡ present_link n es
      → ((l : ℕ) → is_up l (x ∷ es) ≡ is_up l es)
      → ((l : ℕ) → is_up l es ≡ true → peer_of l (x ∷ es) ≡ peer_of l es) → Agrees es n
      → Agrees (x ∷ es) n
  unchanged x a b c p l =
      (λ q. grind (arith, a, b l, c l, p l), λ w. grind (arith, a, b l, c l, p l))

  -- an entry that ends some links, and takes away the present one of n where `gone`
  pub fewer : (x : Entry) (ended : ℕ → Bool) (gone : Bool)
      → present_link n (x ∷ es) ≡ cond gone None (present_link n es)
      → ((l : ℕ) → is_up l (x ∷ es) ≡ ((not (ended l) && is_open l es) && is_whole l es))
      → ((l : ℕ) → peer_of l (x ∷ es) ≡ peer_of l es)
      → ((l : ℕ) → present_link n es ≡ Some l → peer_of l es ≡ Some n → is_whole l es ≡ true
      → ended l ≡ gone)
      → Agrees es n → Agrees (x ∷ es) n
  fewer x ended gone a b c both p l = grind (arith, b, c, both)

-- a refused frame ends no link that is up
pub refused_up : (es : List Entry) (k l : ℕ)
    → ((not (k == l && not (is_whole l es)) && is_open l es) && is_whole l es) ≡ is_up l es
refused_up es k l = grind arith

module _ (o : Opening) (es : List Entry) (legal : IsPlayedIn o es) (n : List ℕ) (e : Entry)
    (fresh_is : opened e.number es ≡ None) where
  -- ---- openings

  pub none_opened : (l : ℕ) → (e.number == l) ≡ true → opened l es ≡ None
  none_opened l q = subst (λ x. opened x es ≡ None) (eqb-true e.number l q) fresh_is

  pub none_taken : (l : ℕ) → (e.number == l) ≡ true → taken l es ≡ []
  none_taken l q =
      subst (λ x. Far o x (taken l es)) (none_opened l q) (far o es legal l)

  abbrev pub with_start : ℕ → Start → Bool → Option Opened
  with_start l s b =
      elim (cond {A = Option Opened} b (Some (record { start = s; before = es })) None) as (λ _.
      Option Opened) [ Some y ↦ Some y | None ↦ opened l es ]

  pub opened_up : (s : Start) → whole_by (Some (record { start = s; before = es })) [] ≡ false
      → (l : ℕ)
      → (((e.number == l) || is_open l es) && whole_by (with_start l s (e.number == l))
      (taken l es)) ≡ is_up l es
  opened_up s empty l = grind (arith, none_taken l, none_opened l)

  pub opened_peer : (s : Start) (l : ℕ) → is_up l es ≡ true
      → peer_by (with_start l s (e.number == l)) (taken l es) ≡ peer_of l es
  opened_peer s l u = grind (arith, none_opened l)

  -- ---- frames

  module _ (k : ℕ) (body : List ℕ) where
    abbrev fr : Reply → Entry
    fr r = but e (Event.Frame k body) (Accepted r)

    abbrev pub moment : Taken
    moment = record { body = body; before = es }

    -- a dial that is given up was not whole
    pub given_up : (l : ℕ) → (gives_up k body l es && is_whole l es) ≡ false
    given_up l = grind arith

    -- a frame that is not the last of a side
    pub not_last : is_last (awaits k es) ≡ false → Agrees es n → Agrees (fr Reply.Done ∷ es) n
    not_last q p = unchanged es n (fr Reply.Done) refl
        (λ l. grind (arith, stays moment (opened l es) (taken l es), eqb-true k l, given_up l))
        (λ l u. grind (arith, kept moment (opened l es) (taken l es))) p

    -- the last frame of a side
    module _ (opens : is_open k es ≡ true) (last : is_last (awaits k es) ≡ true) where
      pub done_now : Completed moment (opened k es) (taken k es)
      done_now = completed moment o (opened k es) (taken k es) (far o es legal k) last

      abbrev up_reply : Completed moment (opened k es) (taken k es) → Reply
      up_reply c = Reply.Up c.peer c.gave.creation (is_visible (past o es) k)

      pub answered : (c : Completed moment (opened k es) (taken k es))
          → cond (is_last (awaits k es)) (up_answer (past o es) k) Reply.Done ≡ up_reply c
      answered c = grind (arith, c.was_given, c.was_of)

      module _ (c : Completed moment (opened k es) (taken k es)) where
        -- another link of this peer ends
        pub ends_by : (l : ℕ) → frame_ends k body l es ≡ (is_whole l es && is_peer c.peer l es)
        ends_by l = grind (arith, c.was_of)

        -- a link that was up is another
        pub other : (l : ℕ) → is_up l es ≡ true → (k == l) ≡ false
        other l u = grind (arith, c.was_whole, eqb-true k l)

        last_frame : Agrees es n → Agrees (fr (up_reply c) ∷ es) n
        last_frame p l = grind (arith, other, ends_by, same_decides, same_sym, eq-eqb, eqb-true)

    -- an accepted frame
    frame_step : (r : Reply) → is_open k es ≡ true
        → r ≡ cond (is_last (awaits k es)) (up_answer (past o es) k) Reply.Done → Agrees es n
        → Agrees (fr r ∷ es) n
    frame_step r opens q p = by_last (is_last (awaits k es)) refl
      where
        by_last : (b : Bool) → is_last (awaits k es) ≡ b → Agrees (fr r ∷ es) n
        by_last true s = (let c = done_now opens s in
            subst (λ x. Agrees (fr x ∷ es) n) (sym (q ∙ answered opens s c))
            (last_frame opens s c p))
        by_last false s = grind (arith, not_last)

  -- ---- each event

  lost_step : (j : ℕ) (r : Reply) → Agrees es n → Agrees (but e (Event.Lost j) (Accepted r) ∷ es) n
  lost_step j r p = grind (arith, fewer, flip)

  disconnect_step : (m : List ℕ) (r : Reply) → Agrees es n
      → Agrees (but e (Event.Disconnect m) (Accepted r) ∷ es) n
  disconnect_step m r p = grind (arith, fewer, same_sym)

  pub step : (ev : Event) (v : Verdict) → v ≡ judgement (past o es) e.seat ev → Agrees es n
      → Agrees (but e ev v ∷ es) n
  step (Event.Frame k body) (Refused r) q p = grind (arith, unchanged, refused_up)
  step ev (Refused r) q p = unchanged es n (but e ev (Refused r)) refl (λ l. refl) (λ l u. refl) p
  step (Event.Frame k body) (Accepted r) q p =
      let met = accepted (past o es) e.seat (Event.Frame k body) r q in
      frame_step k body r (frame_fits o es e.seat k body met.0).0 met.1 p
  step Event.Restart (Accepted r) q p = λ l. (λ w. no_value (sym w), λ w. lie (sym w.0))
  step (Event.Lost j) (Accepted r) q p = lost_step j r p
  step (Event.Disconnect m) (Accepted r) q p = disconnect_step m r p
  step (Event.Opened c) (Accepted r) q p =
      unchanged es n (but e (Event.Opened c) (Accepted r)) refl (opened_up (ByPeer c) refl)
      (opened_peer (ByPeer c)) p
  step (Event.Dial m c) (Accepted r) q p =
      unchanged es n (but e (Event.Dial m c) (Accepted r)) refl (opened_up (ByDial m c) refl)
      (opened_peer (ByDial m c)) p
  step ev (Accepted r) q p = unchanged es n (but e ev (Accepted r)) refl (λ l. refl) (λ l u. refl) p

-- in a history that the policy makes, the present link of a peer is the one link of it that is up
pub agrees : (o : Opening) (es : List Entry) → IsPlayedIn o es → (n : List ℕ) → Agrees es n
agrees o [] legal n = λ l. (λ w. no_value (sym w), λ w. lie (sym w.0))
agrees o (e ∷ es) legal n =
    step o es legal.1 n e (fresh o es legal.1 e legal.0) e.event e.verdict legal.0.judged
    (agrees o es legal.1 n)
