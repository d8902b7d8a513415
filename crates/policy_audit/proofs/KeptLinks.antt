-- Which links have frames that wait, which are kept, and which numbers they have.
use Rattle.policy_audit.proofs
use proofs.Words.{Accepted, and_parts, ap, arith, awaits, Bool, cond, entered, Entry, eqb-true}
use proofs.Words.{Event, false, filter, first_of, flat_map, frame_owes, heard, History, how_many}
use proofs.Words.{if_told, if_visible, is_empty, is_kept, is_open, is_opened_by, is_running}
use proofs.Words.{is_some, is_up, is_whole, IsNumbered, IsPlayed, IsPlayedIn, judgement}
use proofs.Words.{le-leb, leb-true, links, List, list_all, list_any, local_rows, lt-ltb, ltb-true}
use proofs.Words.{Message, Moment, nat_le, nat_lt, None, opened, Opening, OutFrame, owed}
use proofs.Words.{own_name_frame, past, present, refl, refusal_owes, Refused, Reply, Row, Rule}
use proofs.Words.{running_scopes, same_pid, so_far, start_of, started_where, sym, told, true}
use proofs.Words.{Verdict, waiting, waiting_in, ℕ, [], ◌&&◌, ◌++◌, ◌+◌, ◌<◌, ◌==◌, ◌∙◌}
use proofs.Words.{◌∷◌, ◌≡◌, ◌≤◌}
use proofs.Accepted.{accepted, lie}
use proofs.UpLinks.{other}
use proofs.Walked.{but, frame_fits, open_opened, unborn}
use proofs.Heard.{heard_runs, told_talk_runs}
use proofs.Finished.{kept}

-- the event owes frames to its own link
abbrev pub is_of_link : Event → Bool
is_of_link (Event.Dial n c) = true
is_of_link (Event.Frame k body) = true
is_of_link ev = false

-- ---- what is owed to a link that isn't up: no message

module _ (o : Opening) (es : List Entry) (l : ℕ) (down : is_up l es ≡ false) where
  -- its peer isn't told
  not_told : (s : List ℕ) → told o l s es ≡ false
  not_told s = grind arith

  pub untold : (s : List ℕ) (m : List Row → Message) (rows : List Row)
      → if_told (past o es) l s m rows ≡ []
  untold s m rows = grind (arith, not_told s)

  pub all_untold : (m : List ℕ → List Row → Message) (rows : List ℕ → List Row) (ss : List (List ℕ))
      → flat_map (λ s. if_told (past o es) l s (m s) (rows s)) ss ≡ []
  all_untold m rows [] = refl
  all_untold m rows (s ∷ ss) = λ i. untold s (m s) (rows s) i ++ all_untold m rows ss i

  pub unseen : (m : Message) → if_visible (past o es) l m ≡ []
  unseen m = grind arith

  -- so events that aren't of a link owe nothing
  pub unspoken : (number : ℕ) (ev : Event) (v : Verdict) → is_of_link ev ≡ false
      → owed (past o es) l number ev v ≡ []
  unspoken number (Event.StartScope s) (Accepted r) q = unseen (Message.Discover s)
  unspoken number (Event.StopScope s) (Accepted r) q = unseen (Message.Down s)
  unspoken number (Event.Exit p) (Accepted r) q =
      all_untold (λ s. Message.Leave s)
      (λ s. filter (λ w. same_pid w.pid p) (local_rows (past o es) s)) (running_scopes (past o es))
  unspoken number (Event.Join s g ps) (Accepted r) q = untold s (Message.Join s) _
  unspoken number (Event.Leave s g ps) (Accepted r) q = untold s (Message.Leave s) _
  unspoken number (Event.Dial n c) (Accepted r) q = lie q
  unspoken number (Event.Frame k body) v q = lie q
  unspoken number ev v q = refl

-- ---- what is owed to a link that isn't open: nothing, but the own Name at its Dial

module _ (o : Opening) (es : List Entry) (l : ℕ) (closed : is_open l es ≡ false) where
  down : is_up l es ≡ false
  down = ap (λ b. b && is_whole l es) closed

  accepted_frame : (seat k : ℕ) (body : List ℕ) (r : Reply)
      → Accepted r ≡ judgement (past o es) seat (Event.Frame k body) → (b : Bool) → (k == l) ≡ b
      → cond b (frame_owes (past o es) l body (awaits l es)) [] ≡ []
  accepted_frame seat k body r q false m = refl
  accepted_frame seat k body r q true m = grind (arith, eqb-true, frame_fits, accepted)

  refused_frame : (seat k : ℕ) (body : List ℕ) (r : Rule)
      → Refused r ≡ judgement (past o es) seat (Event.Frame k body) → (b : Bool) → (k == l) ≡ b
      → cond b (refusal_owes r) [] ≡ []
  refused_frame seat k body r q b m = grind (arith, eqb-true k l)

  pub unowed : (e : Entry) (ev : Event) (v : Verdict) → v ≡ judgement (past o es) e.seat ev
      → is_opened_by l (but e ev v) ≡ false → owed (past o es) l e.number ev v ≡ []
  unowed e (Event.Dial n c) (Accepted r) q other =
      ap (λ b. cond b (own_name_frame (past o es) ∷ []) []) other
  unowed e (Event.Frame k body) (Accepted r) q other =
      accepted_frame e.seat k body r q (k == l) refl
  unowed e (Event.Frame k body) (Refused r) q other = refused_frame e.seat k body r q (k == l) refl
  unowed e ev (Refused r) q other = refl
  unowed e ev v q other = unspoken o es l down e.number ev v refl

-- ---- a link with frames that wait was opened

dropped : (d : Bool) (w f : List OutFrame) → w ≡ [] → f ≡ [] → cond d [] (w ++ f) ≡ []
dropped d w f p q = grind arith

closed_if : (l : ℕ) (es : List Entry) → opened l es ≡ None → is_open l es ≡ false
closed_if l es none = grind (arith, open_opened l es)

-- for a link that was not opened none wait
pub unopened_waiting : (o : Opening) (es : List Entry) → IsPlayedIn o es → (l : ℕ)
    → opened l es ≡ None → waiting_in o l es ≡ []
unopened_waiting o [] legal l none = refl
unopened_waiting o (e ∷ es) legal l none =
    by_event e.event e.verdict legal.0.judged (unopened_waiting o es legal.1 l) none
  where
    quiet : (ev : Event) (v : Verdict) → v ≡ judgement (past o es) e.seat ev
        → (opened l es ≡ None → waiting_in o l es ≡ []) → is_opened_by l (but e ev v) ≡ false
        → opened l es ≡ None → waiting_in o l (but e ev v ∷ es) ≡ []
    quiet ev v q so_far other was = grind (arith, so_far, dropped, unowed, closed_if, other)

    by_event : (ev : Event) (v : Verdict) → v ≡ judgement (past o es) e.seat ev
        → (opened l es ≡ None → waiting_in o l es ≡ []) → opened l (but e ev v ∷ es) ≡ None
        → waiting_in o l (but e ev v ∷ es) ≡ []
    by_event Event.Restart (Accepted r) q so_far n = refl
    by_event ev v q so_far n = quiet ev v q so_far (grind arith) (grind arith)

-- ---- the links of a history

linked : (l : ℕ) (ms : List Moment)
    → is_some (first_of (λ m. started_where (m.number == l) m.before (start_of m.event)) ms)
    ≡ list_any (λ x. x == l)
    (flat_map (λ m. cond (is_some (start_of m.event)) (m.number ∷ []) []) ms)
linked l [] = refl
linked l (m ∷ ms) = grind (arith, linked l ms)

-- a link was opened exactly where it is one of the links
pub opened_linked : (l : ℕ) (es : List Entry)
    → is_some (opened l es) ≡ list_any (λ x. x == l) (links es)
opened_linked l es = linked l (present es)

module _ (h : History) (legal : IsPlayed h) (l : ℕ) where
  abbrev es : List Entry
  es = h.entries

  pub waiting_opened : is_empty (waiting h l) ≡ false → is_some (opened l es) ≡ true
  waiting_opened some = grind (arith, unopened_waiting h.opening es legal l)

  -- a link that is kept was opened
  pub kept_is_opened : is_kept h l ≡ true → is_some (opened l es) ≡ true
  kept_is_opened kept = grind (arith, open_opened l es, waiting_opened)

  pub kept_opened : is_kept h l ≡ true → list_any (λ x. x == l) (links es) ≡ true
  kept_opened kept = sym (opened_linked l es) ∙ kept_is_opened kept

  -- ---- a number that no entry has yet
  module _ (above : entered es < l) where
    pub unborn_waiting : waiting h l ≡ []
    unborn_waiting = unopened_waiting h.opening es legal l (unborn h.opening es legal l above)

-- ---- the numbers of links

all_below : (n m : ℕ) → n ≤ m → (xs : List ℕ) → list_all (λ x. nat_le x n) xs ≡ true
    → list_all (λ x. nat_le x m) xs ≡ true
all_below n m le [] a = refl
all_below n m le (x ∷ xs) a = grind (arith, le-leb, leb-true, all_below n m le xs)

-- each is greater than all that follow it
abbrev pub Falls : List ℕ → Type 0
Falls [] = Unit {0}
Falls (x ∷ xs) = (list_all (λ y. nat_lt y x) xs ≡ true) × Falls xs

all_less : (n x : ℕ) → x ≡ n + 1 → (xs : List ℕ) → list_all (λ y. nat_le y n) xs ≡ true
    → list_all (λ y. nat_lt y x) xs ≡ true
all_less n x q [] a = refl
all_less n x q (y ∷ ys) a = grind (arith, lt-ltb, leb-true, all_less n x q ys)

-- in what falls each number stands once
absent : (l x : ℕ) → (x == l) ≡ true → (ys : List ℕ) → list_all (λ y. nat_lt y x) ys ≡ true
    → how_many (λ y. y == l) ys ≡ 0
absent l x m [] a = refl
absent l x m (y ∷ ys) a = grind (arith, absent l x m ys, ltb-true, eqb-true)

pub falls_once : (xs : List ℕ) → Falls xs → (l : ℕ)
    → how_many (λ x. x == l) xs ≡ cond (list_any (λ x. x == l) xs) 1 0
falls_once [] f l = refl
falls_once (x ∷ xs) f l = grind (arith, falls_once xs f.1 l, absent l x)

-- the links have numbers of entries, and fall
abbrev Below : List Entry → Type 0
Below es = (list_all (λ x. nat_le x (entered es)) (links es) ≡ true) × Falls (links es)

below : (o : Opening) (es : List Entry) → IsPlayedIn o es
    → (list_all (λ x. nat_le x (entered es)) (links es) ≡ true) × Falls (links es)
below o [] legal = (refl, tt)
below o (e ∷ es) legal =
    let was = below o es legal.1 in
    let le : entered es ≤ entered (e ∷ es) = grind arith in
    let older = all_below (entered es) (entered (e ∷ es)) le (links es) was.0 in
    let newer = λ (number : e.number ≡ entered es + 1). all_less (entered es) e.number number
    (links es) was.0 in
    by_event e.event e.verdict legal.0.number older was.1 newer
  where
    by_event : (ev : Event) (v : Verdict) → IsNumbered (past o es) e.number ev
        → list_all (λ x. nat_le x (entered (but e ev v ∷ es))) (links es) ≡ true → Falls (links es)
        → (e.number ≡ entered es + 1 → list_all (λ y. nat_lt y e.number) (links es) ≡ true)
        → Below (but e ev v ∷ es)
    by_event ev v here older falls newer =
        grind (arith, here, older, falls, newer, le-leb)

pub links_below : (h : History) → IsPlayed h
    → list_all (λ x. nat_le x (entered h.entries)) (links h.entries) ≡ true
links_below h legal = (below h.opening h.entries legal).0

pub links_fall : (h : History) → IsPlayed h → Falls (links h.entries)
links_fall h legal = (below h.opening h.entries legal).1

-- ---- who is told and heard

pub told_runs : (h : History) → IsPlayed h → (l : ℕ) (s : List ℕ)
    → told h.opening l s h.entries ≡ true
    → is_running h s ≡ true
told_runs h legal l s t =
    told_talk_runs h.opening h.entries legal l s
    (and_parts _ _ t).1

pub heard_runs' : (h : History) → IsPlayed h → (l : ℕ) (s : List ℕ)
    → heard h.opening l s h.entries ≡ true
    → is_running h s ≡ true
heard_runs' h legal l s t =
    heard_runs _ _ legal l s
    (and_parts _ _ t).1
