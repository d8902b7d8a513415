-- Which rows an entry may change: no others change.
use Rattle.policy_audit.proofs
use proofs.Words.{Accepted, and_parts, ap, arith, awaits, Bool, checks, cond, Entry}
use proofs.Words.{eqb-true, Event, false, History, is_about_rows, is_last, is_local, is_open}
use proofs.Words.{is_peer, is_replaced, is_running, is_up, is_visible, is_whole, IsPlayedIn, IsStep}
use proofs.Words.{judgement, just, List, listed, listed_by, may_change, mentions, Message}
use proofs.Words.{None, not, not-false, not-true, opened, Opening, Option, option_map_or}
use proofs.Words.{or_parts, own, past, peer_of, Pid, present_link, refl, Refused, Reply, said_at}
use proofs.Words.{same, same_decides, same_pid, same_sym, Some, stands_in, stated_in, subst, sym}
use proofs.Words.{taken, Taken, Talk, talk, talk_of, true, up_answer, Verdict, ℕ, [], ◌&&◌}
use proofs.Words.{◌++◌, ◌==◌, ◌||◌, ◌∙◌, ◌∷◌, ◌≡◌}
use proofs.Accepted.{accepted, all_hold, lie}
use proofs.Walked.{but, frame_fits, fresh}
use proofs.Finished.{Completed, given_kept, kept, whole_kept}
use proofs.UpLinks.{agrees, answered, done_now, ends_by, flip, given_up, none_opened, other}
use proofs.ChangeLemmas.{stopped_lists}
use proofs.Effects.{rows_left}
use proofs.Heard.{has_sync, heard_runs, heard_whole}

or_left : (a b : Bool) → (a || b) ≡ false → a ≡ false
or_left a b q = (or_parts a b q).0

or_right : (a b : Bool) → (a || b) ≡ false → b ≡ false
or_right a b q = (or_parts a b q).1

third : (a b c : Bool) → a ≡ true → b ≡ true → (a && b && c) ≡ false → c ≡ false
third a b c x y z = grind arith

unmentioned : (p : Pid) (ps : List Pid) → stands_in same_pid p ps ≡ false → mentions p ps ≡ 0
unmentioned p [] q = refl
unmentioned p (x ∷ ps) q = grind (arith, unmentioned p ps)

module _ (o : Opening) (es : List Entry) (x : Entry) (s g : List ℕ) (p : Pid) where
  abbrev remote : List Entry → Option ℕ → ℕ
  remote now link = option_map_or (listed_by (past o now) s g p) link 0

  -- where the present link of p's node stays, and lists the same
  pub remote_same : present_link p.node (x ∷ es) ≡ present_link p.node es
      → ((l : ℕ) → present_link p.node es ≡ Some l
      → listed_by (past o (x ∷ es)) s g p l ≡ listed_by (past o es) s g p l)
      → remote (x ∷ es) (present_link p.node (x ∷ es)) ≡ remote es (present_link p.node es)
  remote_same a each = grind (arith, a, each)

  pub all_same : is_local (past o (x ∷ es)) p ≡ is_local (past o es) p
      → own (past o (x ∷ es)) s g p ≡ own (past o es) s g p
      → is_running (past o (x ∷ es)) s ≡ is_running (past o es) s
      → remote (x ∷ es) (present_link p.node (x ∷ es)) ≡ remote es (present_link p.node es)
      → listed (past o (x ∷ es)) s g p ≡ listed (past o es) s g p
  all_same a b c d = λ i. cond (a i) (b i) (cond (c i) (d i) 0)

module _ (o : Opening) (es : List Entry) (legal : IsPlayedIn o es) (e : Entry)
    (fresh_is : opened e.number es ≡ None) (s g : List ℕ) (p : Pid) where
  abbrev n : List ℕ
  n = p.node

  abbrev same_rows : Entry → Type 0
  same_rows x = listed (past o (x ∷ es)) s g p ≡ listed (past o es) s g p

  -- the present link of p's node is up, and of that node
  up_of : (l : ℕ) → present_link n es ≡ Some l → (is_up l es ≡ true) × (peer_of l es ≡ Some n)
  up_of l q = (agrees o es legal n l).0 q

  whole_of : (l : ℕ) → present_link n es ≡ Some l → is_whole l es ≡ true
  whole_of l q = (and_parts _ _ (up_of l q).0).1

  -- ---- own processes

  -- ---- scopes

  -- in a scope that doesn't run nobody is heard
  unheard : is_running (past o es) s ≡ false → (l : ℕ) → has_sync s (talk o l es) ≡ false
  unheard q l = grind (arith, heard_runs o es legal l s)

  starts_scope : (t : List ℕ) (r : Reply) → is_running (past o es) t ≡ false
      → same_rows (but e (Event.StartScope t) (Accepted r))
  starts_scope t r stopped = by (same t s) refl
    where
      by : (b : Bool) → same t s ≡ b → same_rows (but e (Event.StartScope t) (Accepted r))
      by false q = grind (arith, all_same, remote_same)
      by true q = (let here : is_running (past o es) s ≡ false = grind (arith, same_decides t s) in
          grind (arith, unheard here, stopped_lists (past o es) s g p here))

  -- ---- links

  other_number : (l : ℕ) → present_link n es ≡ Some l → (e.number == l) ≡ false
  other_number l q = grind (arith, whole_of l, none_opened o es legal n e fresh_is l)

  -- ---- frames

  module _ (k : ℕ) (body : List ℕ) where
    abbrev fr : Reply → Entry
    fr r = but e (Event.Frame k body) (Accepted r)

    -- a message about another scope
    elsewhere_sync : (x : Option Message) (ts : List Talk) → is_about_rows s x ≡ false
        → has_sync s (talk_of x ++ ts) ≡ has_sync s ts
    elsewhere_sync x ts q = grind arith

    elsewhere_count : (x : Option Message) (ts : List Talk) → is_about_rows s x ≡ false
        → stated_in s g p (talk_of x ++ ts) ≡ stated_in s g p ts
    elsewhere_count x ts q = grind arith

    -- a frame that is not the last of a side
    not_last : is_last (awaits k es) ≡ false
        → (is_whole k es && is_peer n k es && is_about_rows s (said_at o k es body)) ≡ false
        → same_rows (fr Reply.Done)
    not_last q within =
        all_same o es (fr Reply.Done) s g p refl refl refl
        (remote_same o es (fr Reply.Done) s g p refl (λ l here. each l here (k == l) refl))
      where
        each : (l : ℕ) → present_link n es ≡ Some l → (b : Bool) → (k == l) ≡ b
            → listed_by (past o (fr Reply.Done ∷ es)) s g p l ≡ listed_by (past o es) s g p l
        each l here false a = grind (arith, given_up o es legal n e fresh_is k body l)
        each l here true a =
            let moment : Taken = record { body = body; before = es } in
            let one : k ≡ l = eqb-true k l a in
            let within_l =
            subst (λ j.
            (is_whole j es && is_peer n j es && is_about_rows s (said_at o j es body))
            ≡ false) one within in
            let peers : is_peer n l es ≡ true =
            ap (λ x. option_map_or (λ m. same m n) x false) (up_of l here).1
            ∙ (same_decides n n).1 refl in
            let quiet : is_about_rows s (said_at o l es body) ≡ false =
            third (is_whole l es) (is_peer n l es) (is_about_rows s (said_at o l es body))
            (whole_of l here) peers within_l in
            let sync = elsewhere_sync (said_at o l es body) (talk o l es) quiet in
            let count = elsewhere_count (said_at o l es body) (talk o l es) quiet in
            grind (
              arith,
              a,
              sync,
              count,
              up_of l here,
              whole_of l here,
              given_kept moment (opened l es) (taken l es),
              kept moment (opened l es) (taken l es),
              whole_kept moment (opened l es) (taken l es),
            )

    -- the last frame of a side: nobody is heard on the link yet
    module _ (opens : is_open k es ≡ true) (last : is_last (awaits k es) ≡ true)
        (c : Completed (record { body = body; before = es }) (opened k es) (taken k es)) where
      abbrev up_reply : Reply
      up_reply = Reply.Up c.peer c.gave.creation (is_visible (past o es) k)

      silent : (b : Bool) → has_sync s (talk o k es) ≡ b
          → has_sync s (talk o k (fr up_reply ∷ es)) ≡ false
      silent b q = grind (arith, heard_whole o es legal k s, c.was_whole)

      pub new_lists : listed_by (past o (fr up_reply ∷ es)) s g p k ≡ 0
      new_lists = grind (arith, silent)

      last_rows : is_replaced n es (fr up_reply ∷ es) ≡ false → same_rows (fr up_reply)
      last_rows stay =
          all_same o es (fr up_reply) s g p refl refl refl
          (by (present_link n es) refl (same c.peer n) refl stay)
        where
          by : (y : Option ℕ) → present_link n es ≡ y → (b : Bool) → same c.peer n ≡ b
              → option_map_or (λ l. not (option_map_or (λ j. j == l) (cond b (Some k) y) false)) y
              false ≡ false
              → remote o es (fr up_reply) s g p (fr up_reply ∷ es) (cond b (Some k) y)
              ≡ remote o es (fr up_reply) s g p es y
          by None q b a m = grind (arith, new_lists)
          by (Some l) q b a m =
              grind (
                arith,
                other o es legal n e fresh_is k body opens last c l,
                ends_by o es legal n e fresh_is k body opens last c l,
                up_of l q,
                same_sym n c.peer,
              )

    frame_rows : (r : Reply) → is_open k es ≡ true
        → r ≡ cond (is_last (awaits k es)) (up_answer (past o es) k) Reply.Done
        → may_change o es (fr r) s g p ≡ false → same_rows (fr r)
    frame_rows r opens q within = by (is_last (awaits k es)) refl
      where
        by : (b : Bool) → is_last (awaits k es) ≡ b → same_rows (fr r)
        by true last =
            let c = done_now o es legal n e fresh_is k body opens last in
            let is = q ∙ answered o es legal n e fresh_is k body opens last c in
            subst (λ x. same_rows (fr x)) (sym is)
            (last_rows opens last c
            (or_right _ _ (subst (λ x. may_change o es (fr x) s g p ≡ false) is within)))
        by false m =
            let is = q ∙ ap (λ b. cond b (up_answer (past o es) k) Reply.Done) m in
            subst (λ x. same_rows (fr x)) (sym is) (not_last m (or_left _ _ within))

  -- ---- each event

  pub rows_step : (ev : Event) (v : Verdict) → v ≡ judgement (past o es) e.seat ev
      → may_change o es (but e ev v) s g p ≡ false → same_rows (but e ev v)
  rows_step ev (Refused r) q within = rows_left (past o es) e ev (Refused r) refl s g p
  rows_step (Event.StartScope t) (Accepted r) q within =
      starts_scope t r
      (not-true (is_running (past o es) t)
      (not-false (not (is_running (past o es) t))
      (all_hold (checks (past o es) e.seat (Event.StartScope t))
      (accepted (past o es) e.seat (Event.StartScope t) r q).0).0))
  rows_step (Event.Frame k body) (Accepted r) q within =
      let met = accepted (past o es) e.seat (Event.Frame k body) r q in
      frame_rows k body r (frame_fits o es e.seat k body met.0).0 met.1 within
  rows_step Event.Restart (Accepted r) q within = lie within
  rows_step (Event.StopScope t) (Accepted r) _ within = grind arith
  rows_step (Event.Exit x) (Accepted r) _ within = grind arith
  rows_step (Event.Join t f ps) (Accepted r) _ within = grind (arith, unmentioned p ps)
  rows_step (Event.Leave t f ps) (Accepted r) _ within = grind (arith, unmentioned p ps)
  rows_step (Event.Dial m c) (Accepted r) _ within = grind (arith, other_number)
  rows_step (Event.Opened c) (Accepted r) _ within = grind (arith, other_number)
  rows_step (Event.Lost j) (Accepted r) _ within = grind (arith, flip)
  rows_step (Event.Disconnect m) (Accepted r) _ within = grind (arith, up_of, same_sym n m)
  rows_step ev (Accepted r) q within = rows_left (past o es) e ev (Accepted r) refl s g p

-- no row changes but those that the entry may change
pub rows_within : (h : History) (e : Entry) → IsStep h e → IsPlayedIn h.opening h.entries
    → (s g : List ℕ) (p : Pid) → may_change h.opening h.entries e s g p ≡ false
    → listed (just h e) s g p ≡ listed h s g p
rows_within h e made legal s g p within =
    rows_step _ _ legal e (fresh _ _ legal e made) s g p e.event
    e.verdict made.judged within
