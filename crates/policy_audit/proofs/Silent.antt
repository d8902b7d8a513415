-- How few frames wait in a history that the policy makes, and which entries have no losses there.
use Rattle.policy_audit.proofs
use proofs.Words.{Accepted, ap, append-nil, arith, asks, Awaited, awaits, Bool, checks, cond}
use proofs.Words.{discovers, Entry, eqb-true, Event, false, filter, frame_owes, History}
use proofs.Words.{is_accepted, is_slow, is_whole, IsLegal, IsPlayed, IsPlayedIn, IsStep}
use proofs.Words.{just, length, length-append, links, List, lose, ltb-true, max_waiting, may_tell}
use proofs.Words.{Message2, message_owes, nat_lt, None, not, opened, Opening, Option, option_map_or}
use proofs.Words.{OutFrame, past, placed, refl, running_scopes, same, slow_links, Some, subst, sym}
use proofs.Words.{text_cmp, true, Verdict, waiting, waiting_in, whole, with_entry, ℕ, []}
use proofs.Words.{◌++◌, ◌+◌, ◌==◌, ◌∷◌, ◌≡◌, ◌≤◌}
use Rattle.std.proofs.lemmas.List.{length-map}
use proofs.Accepted.{accepted, all_hold, unbroken}
use proofs.Walked.{but, fresh}
use proofs.Finished.{is_message}
use proofs.KeptLinks.{unopened_waiting}
use proofs.Onward.{frame_open, unwhole_awaits, whole_is_message}
use proofs.ScopesNow.{running_started, running_stopped}
use proofs.Losses.{few_wait, legal_few, legal_played}
use proofs.Early.{closed_few, early, own_open}

-- ---- how few wait

-- at most so many for any link
pub all_few : (h : History) → IsLegal h → (l : ℕ) → length (waiting h l) ≤ max_waiting
all_few h legal l = grind (arith, few_wait, closed_few, legal_played)

-- ---- how many scopes run

placed_one : (x : List ℕ) (ys : List (List ℕ)) → length (placed text_cmp x ys) ≤ length ys + 1
placed_one x [] = grind arith
placed_one x (y ∷ ys) = grind (arith, placed_one x ys)

left_few : (test : List ℕ → Bool) (xs : List (List ℕ)) → length (filter test xs) ≤ length xs
left_few test [] = grind arith
left_few test (x ∷ xs) = grind (arith, left_few test xs)

module _ (o : Opening) where
  abbrev run : List Entry → List (List ℕ)
  run es = running_scopes (past o es)

  -- each start finds fewer than 64
  scopes_next : (es : List Entry) (e : Entry) (ev : Event) (v : Verdict)
      → IsStep (past o es) (but e ev v)
      → length (run es) ≤ 64 → length (run (but e ev v ∷ es)) ≤ 64
  scopes_next es e (Event.StartScope s) (Accepted r) made few =
      let x : Entry = but e (Event.StartScope s) (Accepted r) in
      let holds =
      all_hold (checks (past o es) e.seat (Event.StartScope s))
      (accepted (past o es) e.seat (Event.StartScope s) r made.judged).0 in
      let room = ltb-true (length (run es)) 64 (unbroken (nat_lt (length (run es)) 64) holds.1.0) in
      let one = placed_one s (run es) in
      subst (λ xs. length xs ≤ 64) (sym (running_started (past o es) x refl s refl))
      (omega (arith, room, one))
  scopes_next es e (Event.StopScope s) (Accepted r) made few =
      let x : Entry = but e (Event.StopScope s) (Accepted r) in
      let fewer = left_few (λ t. not (same t s)) (run es) in
      subst (λ xs. length xs ≤ 64) (sym (running_stopped (past o es) x refl s refl))
      (omega (arith, fewer, few))
  scopes_next es e ev v made few = grind arith

  scopes_few : (es : List Entry) → IsPlayedIn o es → length (run es) ≤ 64
  scopes_few [] legal = grind arith
  scopes_few (e ∷ es) legal = scopes_next es e e.event e.verdict legal.0 (scopes_few es legal.1)

-- ---- what a frame is owed

module _ (h : History) (l : ℕ) (body : List ℕ) where
  discovers_few : length (running_scopes h) ≤ 64 → length (discovers h l) ≤ 64
  discovers_few few = grind (arith, few, length-map {A = List ℕ} {B = OutFrame})

  -- of the handshake: an Ack and a Discover for each scope, at most
  handshake_owes : (a : Awaited) → is_message a ≡ false → length (discovers h l) ≤ 64
      → length (frame_owes h l body a) ≤ 65
  handshake_owes a q few = grind (arith, few)

  -- a message other than a Discover: nothing
  unasked_owes : (x : Option Message2) → asks x ≡ false → option_map_or (message_owes h l) x [] ≡ []
  unasked_owes None q = refl
  unasked_owes (Some m) q = grind (arith, q)

-- ---- entries with no losses

few_enough : (n : ℕ) → n ≤ 1024 → nat_lt max_waiting n ≡ false
few_enough n le = grind (arith, ltb-true 1024 n, le)

none_slow : (k : History) (ls : List ℕ) → ((l : ℕ) → is_slow k.opening k.entries l ≡ false)
    → filter (is_slow k.opening k.entries) ls ≡ []
none_slow k [] few = refl
none_slow k (l ∷ ls) few = grind (arith, few l, none_slow k ls few)

-- a frame that is owed few leaves its link with few
pub still : (h : History) (e : Entry) (l k : ℕ) (body : List ℕ) → is_accepted e.verdict ≡ true
    → e.event ≡ Event.Frame k body
    → (k == l) ≡ false → is_slow h.opening h.entries l ≡ false
    → is_slow h.opening (e ∷ h.entries) l ≡ false
still h e l k body accepts is other few = grind (arith, is, accepts, other, few, append-nil)

module _ (h : History) (legal : IsLegal h) (e : Entry) (made : IsStep h e)
    (accepts : is_accepted e.verdict ≡ true) where
  abbrev es : List Entry
  es = h.entries

  few : (l : ℕ) → is_slow h.opening es l ≡ false
  few = legal_few h legal

  played : IsPlayed h
  played = legal_played h legal

  new : (l : ℕ) → (e.number == l) ≡ true → waiting_in h.opening l es ≡ []
  new l m =
      unopened_waiting _ _ played l
      (subst (λ x. opened x es ≡ None) (eqb-true _ l m) (fresh _ _ played e made))

  -- a frame of link l leaves it with few
  module _ (l : ℕ) (body : List ℕ) (is : e.event ≡ Event.Frame l body)
      (q : may_tell h.opening es (Event.Frame l body) ≡ false) where
    owes_by : (w : Bool) → is_whole l es ≡ w
        → length (waiting h l ++ frame_owes h l body (awaits l es)) ≤ max_waiting
    owes_by true whole =
        grind (arith, few_wait, frame_open, whole_is_message, unasked_owes, append-nil)
    owes_by false whole = grind (
      arith,
      early,
      played,
      handshake_owes,
      unwhole_awaits,
      frame_open,
      discovers_few,
      scopes_few,
      length-append,
    )

    own_still : is_slow h.opening (e ∷ es) l ≡ false
    own_still = grind (
      arith,
      own_open h.opening l es played e accepts body is,
      owes_by (is_whole l es) refl,
      played,
      few_enough,
    )

  framed : (k : ℕ) (body : List ℕ) → e.event ≡ Event.Frame k body
      → may_tell h.opening es (Event.Frame k body) ≡ false
      → (l : ℕ) → (b : Bool) → (k == l) ≡ b → is_slow h.opening (e ∷ es) l ≡ false
  framed k body is q l true m = grind (arith, eqb-true, own_still)
  framed k body is q l false m = still h e l k body accepts is m (few l)

  -- an event that owes no message to a link that was up makes none slow
  still_few : (ev : Event) (v : Verdict) → e.event ≡ ev → e.verdict ≡ v
      → may_tell h.opening es ev ≡ false
      → (l : ℕ)
      → is_slow h.opening (but e ev v ∷ es) l ≡ false
  still_few (Event.Frame k body) (Accepted r) is says q l =
      subst (λ (x : Event × Verdict). is_slow h.opening (but e x.0 x.1 ∷ es) l ≡ false)
      (λ i. (is i, says i)) (framed k body is q l (k == l) refl)
  still_few ev v is says q l = grind (arith, accepts, says, q, few l, append-nil, new l)

-- an entry of such an event has no losses
pub tells_none : (h : History) → IsLegal h → (e : Entry) → IsStep h e
    → may_tell h.opening h.entries e.event ≡ false → with_entry h e ≡ just h e
tells_none h legal e made q = by (is_accepted e.verdict) refl
  where
    by : (b : Bool) → is_accepted e.verdict ≡ b
        → cond b (past h.opening (lose (slow_links (just h e)) (e ∷ h.entries))) (just h e)
        ≡ just h e
    by false a = refl
    by true a = ap (λ ls. past h.opening (lose ls (e ∷ h.entries)))
        (none_slow (just h e) (links (e ∷ h.entries))
        (still_few h legal e made a e.event e.verdict refl refl q))
