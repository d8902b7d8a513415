-- How often a process is listed after each accepted event.
use Rattle.policy_audit.proofs
use proofs.Walked.{but, frame_fits, fresh}
use proofs.Words.{Accepted, ap, arith, awaits, Bool, checks, cond, Entry, eq-eqb}
use proofs.Words.{eqb-true, Event, false, History, is_about_rows, is_accepted, is_last, is_local}
use proofs.Words.{is_open, is_peer, is_replaced, is_running, is_up, is_visible, is_whole, IsPlayed}
use proofs.Words.{IsStep, judgement, just, leave_checks, List, list_all, listed, listed_by}
use proofs.Words.{may_change, mentions, None, occurrences, opened, option_map_or, own}
use proofs.Words.{peer_of, Pid, present_link, refl, Reply, said_at, same, same_decides, same_pid}
use proofs.Words.{same_pid_decides, same_sym, Some, subst, sym, taken, true, ℕ, [], ◌&&◌}
use proofs.Words.{◌+◌, ◌-◌, ◌==◌, ◌||◌, ◌∙◌, ◌∷◌, ◌≡◌}
use proofs.Finished.{Completed, is_message, whole_awaits}
use proofs.Accepted.{accepted, all_hold, lie, unbroken}
use proofs.UpLinks.{agrees, answered, done_now, value_of}
use proofs.Effects.{breaks_none, by_made, entry_exited, entry_joined, entry_left}
use proofs.Within.{new_lists, rows_step}

-- ---- counts

-- of what fails the test that all of a list pass, the list has none
pub uncounted : {A : Type 0} (alike : A → A → Bool) → ((y x : A) → alike y x ≡ true → y ≡ x)
    → (test : A → Bool) (x : A) (xs : List A)
    → list_all test xs ≡ true → test x ≡ false → occurrences alike x xs ≡ 0
uncounted alike exact test x [] all out = refl
uncounted alike exact test x (y ∷ ys) all out =
    grind (arith, uncounted alike exact test x ys, exact y x)

-- what is taken away from one's own count, where nothing is taken from others
minus_own : (l a b : Bool) (x y m : ℕ) → (l ≡ false → m ≡ 0)
    → cond l (cond (a && b) (x - m) x) y ≡ cond a (cond l x y - cond b m 0) (cond l x y)
minus_own l a b x y m z = grind arith

exit_own : (l a : Bool) (x y : ℕ) → (l ≡ false → a ≡ false)
    → cond l (cond a 0 x) y ≡ cond a 0 (cond l x y)
exit_own l a x y z = grind arith

pid_sym : (p q : Pid) → same_pid p q ≡ same_pid q p
pid_sym p q = grind (arith, same_pid_decides)

pub or_none : (a b : Bool) → a ≡ false → b ≡ false → (a || b) ≡ false
or_none a b p q = grind arith

-- ---- own processes

module _ (h : History) (e : Entry) (made : IsStep h e) (yes : is_accepted e.verdict ≡ true) where
  -- an own process is listed as often as it is joined, and another as often as its node's link
  -- lists it
  abbrev remote : List ℕ → List ℕ → Pid → ℕ
  remote t f p =
      cond (is_running h t) (option_map_or (listed_by h t f p) (present_link p.node h.entries) 0) 0

  unmentioned : (ps : List Pid) → list_all (is_local h) ps ≡ true → (p : Pid) → is_local h p ≡ false
      → mentions p ps ≡ 0
  unmentioned ps all p out =
      uncounted same_pid (λ q r. (same_pid_decides q r).0) (is_local h) p ps all out

  pub joined_rows : (s g : List ℕ) (ps : List Pid) → e.event ≡ Event.Join s g ps
      → (t f : List ℕ) (p : Pid)
      → listed (just h e) t f p
      ≡ cond (same t s) (listed h t f p + cond (same f g) (mentions p ps) 0) (listed h t f p)
  joined_rows s g ps is t f p =
      grind (arith, all_hold, breaks_none, entry_joined, unbroken, unmentioned, same_sym)

  pub left_rows : (s g : List ℕ) (ps : List Pid) → e.event ≡ Event.Leave s g ps
      → (t f : List ℕ) (p : Pid)
      → listed (just h e) t f p
      ≡ cond (same t s) (listed h t f p - cond (same f g) (mentions p ps) 0) (listed h t f p)
  left_rows s g ps is t f p =
      let holds = all_hold (leave_checks h s g ps)
      (breaks_none h e (Event.Leave s g ps) made yes is) in
      let now : listed (just h e) t f p
      ≡ cond (is_local h p) (own (just h e) t f p) (remote t f p) = grind arith in
      now ∙ ap (λ c. cond (is_local h p) c (remote t f p)) (entry_left h e s g ps is yes t f p)
      ∙ minus_own (is_local h p) (same s t) (same g f) (own h t f p) (remote t f p) (mentions p ps)
      (unmentioned ps (unbroken (list_all (is_local h) ps) holds.1.0) p)
      ∙ (λ i. cond (same_sym s t i) (listed h t f p - cond (same_sym g f i) (mentions p ps) 0)
      (listed h t f p))

  pub exited_rows : (q : Pid) → e.event ≡ Event.Exit q → (t f : List ℕ) (p : Pid)
      → listed (just h e) t f p ≡ cond (same_pid p q) 0 (listed h t f p)
  exited_rows q is t f p =
      let own_one =
      unbroken (is_local h q)
      (all_hold (checks h e.seat (Event.Exit q))
      (breaks_none h e (Event.Exit q) made yes is)).0 in
      let now : listed (just h e) t f p
      ≡ cond (is_local h p) (own (just h e) t f p) (remote t f p) = grind arith in
      now ∙ ap (λ c. cond (is_local h p) c (remote t f p)) (entry_exited h e q is yes t f p)
      ∙ exit_own (is_local h p) (same_pid q p) (own h t f p) (remote t f p)
      (λ out. grind (arith, same_pid_decides q p))
      ∙ ap (λ b. cond b 0 (listed h t f p)) (pid_sym q p)

  pub restarted_rows : e.event ≡ Event.Restart → (t f : List ℕ) (p : Pid)
      → listed (just h e) t f p ≡ 0
  restarted_rows is t f p = grind arith

-- ---- scopes and links

-- a present link that is the same isn't replaced
pub unreplaced : (n : List ℕ) (old new : List Entry) → present_link n new ≡ present_link n old
    → is_replaced n old new ≡ false
unreplaced n old new q = grind (arith, eq-eqb)

-- a process of another node
pub not_local : (k : History) (p : Pid) (n : List ℕ) → same p.node n ≡ true
    → same n k.opening.name ≡ false → is_local k p ≡ false
not_local k p n of foreign = grind (arith, same_decides p.node n)

-- a process of another node, of which no link is up
pub unlinked : (k : History) (t f : List ℕ) (p : Pid) → is_local k p ≡ false
    → present_link p.node k.entries ≡ None → listed k t f p ≡ 0
unlinked k t f p out none = grind arith

module _ (h : History) (legal : IsPlayed h) (e : Entry) (made : IsStep h e)
    (yes : is_accepted e.verdict ≡ true) where
  abbrev es : List Entry
  es = h.entries

  -- an event that doesn't concern a row leaves it
  left_alone : (ev : Event) → e.event ≡ ev → (t f : List ℕ) (p : Pid)
      → ((r : Reply) → may_change h.opening es (but e ev (Accepted r)) t f p ≡ false)
      → listed (just h e) t f p ≡ listed h t f p
  left_alone ev is t f p within =
      by_made h e ev (λ x. listed (just h x) t f p ≡ listed h t f p) made yes is
      (λ r q. rows_step _ _ legal e (fresh _ _ legal e made) t f p ev
      (Accepted r) q (within r))

  pub started_rows : (s : List ℕ) → e.event ≡ Event.StartScope s → (t f : List ℕ) (p : Pid)
      → listed (just h e) t f p ≡ listed h t f p
  started_rows s is t f p = grind (arith, left_alone, unreplaced)

  pub stopped_rows : (s : List ℕ) → e.event ≡ Event.StopScope s → (t f : List ℕ) (p : Pid)
      → listed (just h e) t f p ≡ cond (same t s) 0 (listed h t f p)
  stopped_rows s is t f p = grind (arith, same_sym s t)

  pub opened_rows : (c : ℕ) → e.event ≡ Event.Opened c → (t f : List ℕ) (p : Pid)
      → listed (just h e) t f p ≡ listed h t f p
  opened_rows c is t f p = grind (arith, left_alone, unreplaced)

  pub dialled_rows : (n : List ℕ) (c : ℕ) → e.event ≡ Event.Dial n c → (t f : List ℕ) (p : Pid)
      → listed (just h e) t f p ≡ listed h t f p
  dialled_rows n c is t f p = grind (arith, left_alone, unreplaced)

  -- a lost link that isn't the present one of p's node
  lost_apart : (l : ℕ) → e.event ≡ Event.Lost l → (t f : List ℕ) (p : Pid)
      → ((j : ℕ) → present_link p.node es ≡ Some j → (j == l) ≡ false)
      → listed (just h e) t f p ≡ listed h t f p
  lost_apart l is t f p apart =
      left_alone (Event.Lost l) is t f p (λ r. grind (arith, apart, eq-eqb))

  -- the present link of p's node is not l, where that is another link
  other_link : (l : ℕ) (p : Pid) → ((is_up l es ≡ true) × (peer_of l es ≡ Some p.node) → ⊥)
      → (j : ℕ) → present_link p.node es ≡ Some j → (j == l) ≡ false
  other_link l p not_so j q =
      grind (arith, agrees h.opening es legal p.node j, eqb-true j l, not_so)

  pub lost_rows : (l : ℕ) (n : List ℕ) → e.event ≡ Event.Lost l → is_up l es ≡ true
      → peer_of l es ≡ Some n → same n h.opening.name ≡ false
      → (t f : List ℕ) (p : Pid) → listed (just h e) t f p ≡ cond (same p.node n) 0 (listed h t f p)
  lost_rows l n is up of foreign t f p = grind (
    arith,
    same_decides,
    agrees,
    eq-eqb,
    unlinked,
    not_local,
    lost_apart,
    other_link,
    value_of,
  )

  pub lost_other : (l : ℕ) → e.event ≡ Event.Lost l → is_up l es ≡ false → (t f : List ℕ) (p : Pid)
      → listed (just h e) t f p ≡ listed h t f p
  lost_other l is down t f p = lost_apart l is t f p (other_link l p (λ w. lie (sym w.0 ∙ down)))

  pub disconnected_rows : (n : List ℕ) → e.event ≡ Event.Disconnect n
      → same n h.opening.name ≡ false → (t f : List ℕ) (p : Pid)
      → listed (just h e) t f p ≡ cond (same p.node n) 0 (listed h t f p)
  disconnected_rows n is foreign t f p =
      grind (arith, same_sym, unlinked, not_local, left_alone, eq-eqb)

  -- ---- frames

  module _ (l : ℕ) (body : List ℕ) (is : e.event ≡ Event.Frame l body) where
    abbrev pub fr : Reply → Entry
    fr r = but e (Event.Frame l body) (Accepted r)

    -- a frame that isn't the last of a side is answered Done
    pub done_frame : is_last (awaits l es) ≡ false → (P : Entry → Type 0)
        → (Accepted Reply.Done ≡ judgement h e.seat (Event.Frame l body) → P (fr Reply.Done)) → P e
    done_frame inner P each = grind (arith, each, accepted)

    -- and leaves the rows that it doesn't concern
    pub inner_rows : is_last (awaits l es) ≡ false → (t f : List ℕ) (p : Pid)
        → (is_whole l es && is_peer p.node l es && is_about_rows t (said_at h.opening l es body))
        ≡ false
        → listed (just h e) t f p ≡ listed h t f p
    inner_rows inner t f p within = done_frame inner (λ x. listed (just h x) t f p ≡ listed h t f p)
        (λ q. rows_step h.opening es legal e (fresh h.opening es legal e made) t f p
        (Event.Frame l body) (Accepted Reply.Done) q
        (or_none _ _ within (unreplaced p.node es (fr Reply.Done ∷ es) refl)))

    pub unfinished_rows : is_message (awaits l es) ≡ false → is_last (awaits l es) ≡ false
        → (t f : List ℕ) (p : Pid) → listed (just h e) t f p ≡ listed h t f p
    unfinished_rows unlike inner t f p =
        inner_rows inner t f p (grind (arith, whole_awaits (opened l es) (taken l es)))

    -- the last frame of a side: what its peer listed on an older link is gone, and nobody is heard
    -- on this one yet
    module _ (n : List ℕ) (last : is_last (awaits l es) ≡ true) (of : peer_of l es ≡ Some n)
        (foreign : same n h.opening.name ≡ false) (t f : List ℕ) (p : Pid) where
      module _ (opens : is_open l es ≡ true)
          (c : Completed (record { body = body; before = es }) (opened l es) (taken l es)) where
        abbrev up : Reply
        up = Reply.Up c.peer c.gave.creation (is_visible h l)

        now_linked : (b : Bool) → same p.node n ≡ b
            → present_link p.node (fr up ∷ es) ≡ cond b (Some l) (present_link p.node es)
        now_linked b m = grind (arith, same_sym c.peer p.node, c.was_of)

        now_silent : same p.node n ≡ true → listed (just h (fr up)) t f p ≡ 0
        now_silent m =
            grind (
              arith,
              not_local (just h (fr up)) p n m foreign,
              now_linked true m,
              new_lists h.opening es legal e (fresh h.opening es legal e made) t f p l body
                  opens last c,
            )

        up_by : Accepted up ≡ judgement h e.seat (Event.Frame l body) → (b : Bool)
            → same p.node n ≡ b → listed (just h (fr up)) t f p ≡ cond b 0 (listed h t f p)
        up_by q true m = now_silent m
        up_by q false m =
            rows_step _ _ legal e (fresh _ _ legal e made) t f p
            (Event.Frame l body) (Accepted up) q
            (or_none _ _
            (ap (λ b. b && is_peer p.node l es && is_about_rows t (said_at h.opening l es body))
            c.was_whole) (unreplaced p.node es (fr up ∷ es) (now_linked false m)))

      pub up_rows : listed (just h e) t f p ≡ cond (same p.node n) 0 (listed h t f p)
      up_rows =
          by_made h e (Event.Frame l body)
          (λ x. listed (just h x) t f p ≡ cond (same p.node n) 0 (listed h t f p)) made yes is
          (λ r q. (
          let met = accepted h e.seat (Event.Frame l body) r q in
          let opens = (frame_fits h.opening es e.seat l body met.0).0 in
          let c = done_now h.opening es legal p.node e (fresh h.opening es legal e made) l body
          opens last in
          let is_up = met.1
          ∙ answered h.opening es legal p.node e (fresh h.opening es legal e made) l body opens
          last c in
          subst (λ x. listed (just h (fr x)) t f p ≡ cond (same p.node n) 0 (listed h t f p))
          (sym is_up) (up_by opens c (ap Accepted (sym is_up) ∙ q) (same p.node n) refl)))
