-- How few frames wait for a link whose side isn't whole, or that isn't open.
use Rattle.policy_audit.proofs
use proofs.Words.{Accepted, and_parts, ap, append-nil, arith, AwaitAck, Awaited, AwaitMessage}
use proofs.Words.{AwaitReply, awaits, Bool, cond, drops, Entry, eq-eqb, eqb-true, Event, false}
use proofs.Words.{frame_owes, History, is_accepted, is_last, is_open, is_opened_by, is_up, is_whole}
use proofs.Words.{IsPlayed, IsPlayedIn, IsStep, le-leb, length, length-append, List, nat_le}
use proofs.Words.{None, Opened, opened, Opening, Option, or_parts, OutFrame, owed, past, refl}
use proofs.Words.{refusal_owes, Refused, Reply, Rule, same, so_far, Some, Start, sym, Taken, taken}
use proofs.Words.{true, Verdict, waiting, waiting_in, was_up, whole, whole_side, ℕ, []}
use proofs.Words.{◌++◌, ◌+◌, ◌==◌, ◌∙◌, ◌∷◌, ◌≡◌, ◌≤◌}
use proofs.Accepted.{lie}
use proofs.Walked.{but, Far, far, fresh}
use proofs.Finished.{is_message, whole_by}
use proofs.KeptLinks.{unopened_waiting, unowed, unspoken}
use proofs.Onward.{ack_taken, frame_open, message_taken_on, newest, reply_taken, unwhole_awaits}
use proofs.Onward.{whole_is_message}

-- a frame before the last of a side is owed two frames at most
early_owes : (h : History) (l : ℕ) (body : List ℕ) (a : Awaited) → is_last a ≡ false
    → is_message a ≡ false
    → length (frame_owes h l body a) ≤ 2
early_owes h l body a q m = grind arith

-- a refused frame is owed one at most
refusal_one : (r : Rule) → length (refusal_owes r) ≤ 1
refusal_one r = grind arith

-- an entry that owes nothing leaves no more frames, and ends the link or leaves it
no_more : (gone open_now open_was : Bool) (waits owes : List OutFrame) (n : ℕ) → owes ≡ []
    → (open_now ≡ true → open_was ≡ true) → length waits + cond open_was 1 0 ≤ n
    → length (cond gone [] (waits ++ owes)) + cond open_now 1 0 ≤ n
no_more true true was waits owes n none opens few = grind (arith, none, opens refl, few)
no_more true false was waits owes n none opens few = grind (arith, none, few)
no_more false true was waits owes n none opens few =
    grind (arith, none, append-nil, opens refl, few)
no_more false false was waits owes n none opens few = grind (arith, none, append-nil, few)

-- two frames more for one more that was taken
sums : (now was more : List OutFrame) (later earlier : List Taken) (m : Taken)
    (open_now open_was : Bool)
    → now ≡ was ++ more → later ≡ earlier ++ m ∷ [] → open_now ≡ true → open_was ≡ true
    → length more ≤ 2
    → length was + cond open_was 1 0 ≤ length earlier + length earlier + 2
    → length now + cond open_now 1 0 ≤ length later + length later + 2
sums now was more later earlier m open_now open_was a b c d two few =
    grind (arith, a, b, c, d, two, few, length-append)

module _ (o : Opening) (l : ℕ) where
  -- two frames wait for each that was taken, and one more once the link is ended
  abbrev Few : List Entry → Type 0
  Few es =
      length (waiting_in o l es) + cond (is_open l es) 1 0 ≤ length (taken l es) + length
      (taken l es) + 2

  module _ (es : List Entry) (legal : IsPlayedIn o es) where
    abbrev h : History
    h = past o es

    idle : (x : Entry) → taken l (x ∷ es) ≡ taken l es → owed h l x.number x.event x.verdict ≡ []
        → (is_open l (x ∷ es) ≡ true → is_open l es ≡ true) → Few es → Few (x ∷ es)
    idle x same none opens few = grind (
      arith,
      no_more (drops l es x.verdict x.event) (is_open l (x ∷ es)) (is_open l es)
          (waiting_in o l es) (owed h l x.number x.event x.verdict)
          (length (taken l es) + length (taken l es) + 2) none opens few,
      opens,
      few,
    )

    down : is_whole l es ≡ false → is_up l es ≡ false
    down w = grind (arith, w)

    -- ---- a link that is opened

    begins : (x : Entry) → IsStep h x → is_opened_by l x ≡ true
        → length (owed h l x.number x.event x.verdict) ≤ 1
        → Few (x ∷ es)
    begins x made new few = grind (arith, none, nothing, few)
      where
        none : opened l es ≡ None
        none = grind (arith, fresh o es legal x made, eqb-true x.number l, new)

        nothing : waiting_in o l es ≡ []
        nothing = unopened_waiting o es legal l none

    -- ---- a frame of its own

    pub own_open : (x : Entry) → is_accepted x.verdict ≡ true → (body : List ℕ)
        → x.event ≡ Event.Frame l body
        → (waiting_in o l (x ∷ es) ≡ waiting_in o l es ++ frame_owes h l body (awaits l es))
        × (is_open l es ≡ true → is_open l (x ∷ es) ≡ true)
    own_open x accepts body is =
        (grind (arith, eq-eqb l l), λ opens. grind (arith, opens, eq-eqb l l))

    module _ (x : Entry) (made : IsStep h x) (yes : is_accepted x.verdict ≡ true) (body : List ℕ)
        (is : x.event ≡ Event.Frame l body) where
      opens : is_open l es ≡ true
      opens = frame_open h x made yes l body is

      more : is_open l (x ∷ es) ≡ true
      more = (own_open x yes body is).1 opens

      waits : waiting_in o l (x ∷ es) ≡ waiting_in o l es ++ frame_owes h l body (awaits l es)
      waits = (own_open x yes body is).0

      takes : taken l (x ∷ es) ≡ taken l es ++ record { body = body; before = es } ∷ []
      takes = newest h x made yes l body is

      own_by : (a : Awaited) → awaits l es ≡ a → is_whole l es ≡ false → is_whole l (x ∷ es) ≡ false
          → Few es → Few (x ∷ es)
      own_by AwaitReply q was now few = lie (sym (reply_taken h x made yes l body is q).whole ∙ now)
      own_by AwaitAck q was now few = lie (sym (ack_taken h x made yes l body is q).whole ∙ now)
      own_by AwaitMessage q was now few =
          lie (sym (ap is_message q) ∙ unwhole_awaits l es opens was)
      own_by a q was now few =
          inner (early_owes h l body (awaits l es) (ap is_last q) (ap is_message q))
        where
          inner : length (frame_owes h l body (awaits l es)) ≤ 2 → Few (x ∷ es)
          inner two = grind (arith, sums, waits, takes, more, opens, few)

      own_frame : (w : Bool) → is_whole l es ≡ w → is_whole l (x ∷ es) ≡ false
          → (w ≡ false → Few es) → Few (x ∷ es)
      own_frame false was now few = own_by (awaits l es) refl was now (few refl)
      own_frame true was now few =
          lie (sym
          (message_taken_on h x made yes l body is ((whole_is_message l es opens).0 was)).whole
          ∙ now)

    -- ---- any entry

    module _ (e : Entry) where
      opens_by : (ev : Event) (v : Verdict) → is_opened_by l (but e ev v) ≡ false
          → is_open l (but e ev v ∷ es) ≡ true → is_open l es ≡ true
      opens_by ev v old q = grind (arith, and_parts)

      abbrev x : Event → Verdict → Entry
      x ev v = but e ev v

      quiet : (ev : Event) (v : Verdict) → taken l (x ev v ∷ es) ≡ taken l es
          → is_opened_by l (x ev v) ≡ false
          → owed h l e.number ev v ≡ [] → Few es → Few (x ev v ∷ es)
      quiet ev v same old none few = idle (x ev v) same none (opens_by ev v old) few

      opening : (ev : Event) (r : Reply) → IsStep h (x ev (Accepted r))
          → taken l (x ev (Accepted r) ∷ es) ≡ taken l es
          → length (owed h l e.number ev (Accepted r)) ≤ 1
          → (is_opened_by l (x ev (Accepted r)) ≡ false → owed h l e.number ev (Accepted r) ≡ [])
          → (is_opened_by l (x ev (Accepted r)) ≡ false → Few es) → Few (x ev (Accepted r) ∷ es)
      opening ev r made same few none was = by (is_opened_by l (x ev (Accepted r))) refl
        where
          by : (b : Bool) → is_opened_by l (x ev (Accepted r)) ≡ b → Few (x ev (Accepted r) ∷ es)
          by true q = begins (x ev (Accepted r)) made q few
          by false q = quiet ev (Accepted r) same q (none q) (was q)

      framed : (k : ℕ) (body : List ℕ) (r : Reply) → IsStep h (x (Event.Frame k body) (Accepted r))
          → (is_whole l es ≡ false → Few es)
          → is_whole l (x (Event.Frame k body) (Accepted r) ∷ es) ≡ false
          → (b : Bool) → (k == l) ≡ b → Few (x (Event.Frame k body) (Accepted r) ∷ es)
      framed k body r made so_far now true m =
          own_frame (x (Event.Frame k body) (Accepted r)) made refl body
          (ap (λ j. Event.Frame j body) (eqb-true k l m)) (is_whole l es) refl now so_far
      framed k body r made so_far now false m =
          quiet (Event.Frame k body) (Accepted r) (grind (arith, m)) refl (grind (arith, m))
          (so_far (grind (arith, now, m)))

      refused : (k : ℕ) (body : List ℕ) (r : Rule) → IsStep h (x (Event.Frame k body) (Refused r))
          → is_whole l es ≡ false
          → Few es → (b : Bool) → is_open l es ≡ b → Few (x (Event.Frame k body) (Refused r) ∷ es)
      refused k body r made was few true opens =
          grind (arith, was, few, opens, refusal_one r, append-nil, length-append)
      refused k body r made was few false opens =
          quiet (Event.Frame k body) (Refused r) refl refl
          (unowed o es l opens e (Event.Frame k body) (Refused r) made.judged refl) few

      -- the entry keeps what waits few
      keeps_few : (ev : Event) (v : Verdict) → IsStep h (x ev v) → (is_whole l es ≡ false → Few es)
          → is_whole l (x ev v ∷ es) ≡ false → Few (x ev v ∷ es)
      keeps_few Event.Restart (Accepted r) made so_far now = grind arith
      keeps_few (Event.Opened c) (Accepted r) made so_far now =
          opening (Event.Opened c) r made refl (grind arith) (λ q. refl)
          (λ q. so_far (grind (arith, now, q)))
      keeps_few (Event.Dial n c) (Accepted r) made so_far now =
          opening (Event.Dial n c) r made refl (grind arith) (λ q. grind (arith, q))
          (λ q. so_far (grind (arith, now, q)))
      keeps_few (Event.Frame k body) (Accepted r) made so_far now =
          framed k body r made so_far now (k == l) refl
      keeps_few (Event.Frame k body) (Refused r) made so_far now =
          refused k body r made now (so_far now) (is_open l es) refl
      keeps_few ev (Accepted r) made so_far now =
          quiet ev (Accepted r) refl refl (unspoken o es l (down now) e.number ev (Accepted r) refl)
          (so_far now)
      keeps_few ev (Refused r) made so_far now = quiet ev (Refused r) refl refl refl (so_far now)

  few : (es : List Entry) → IsPlayedIn o es → is_whole l es ≡ false → Few es
  few [] legal w = grind arith
  few (e ∷ es) legal w = keeps_few es legal.1 e e.event e.verdict legal.0 (few es legal.1) w

  -- ---- a link that ended once its side was whole has none

  none_left : (gone : Bool) (waits owes : List OutFrame) → waits ≡ [] → owes ≡ []
      → cond gone [] (waits ++ owes) ≡ []
  none_left true waits owes p q = refl
  none_left false waits owes p q = grind (arith, p, q)

  module _ (es : List Entry) (legal : IsPlayedIn o es) (e : Entry) where
    -- where the entry ended it, its frames are dropped
    ends_now : (ev : Event) (v : Verdict) → is_open l es ≡ true
        → is_open l (but e ev v ∷ es) ≡ false
        → is_whole l (but e ev v ∷ es) ≡ true → waiting_in o l (but e ev v ∷ es) ≡ []
    ends_now ev v was now whole = grind (arith, was, now, whole)

    -- where it was ended before, its side was whole before
    whole_was : (ev : Event) (v : Verdict) → IsStep (past o es) (but e ev v) → is_open l es ≡ false
        → is_opened_by l (but e ev v) ≡ false → is_whole l (but e ev v ∷ es) ≡ true
        → is_whole l es ≡ true
    whole_was (Event.Frame k body) (Accepted r) made was old whole = by (k == l) refl
      where
        by : (b : Bool) → (k == l) ≡ b → is_whole l es ≡ true
        by true m = grind (arith, frame_open, eqb-true)
        by false m = grind (arith, whole, m)
    whole_was ev v made was old whole = grind (arith, old, whole)

    ended_next : IsStep (past o es) e
        → (is_open l es ≡ false → is_whole l es ≡ true → waiting_in o l es ≡ [])
        → is_open l (e ∷ es) ≡ false → is_whole l (e ∷ es) ≡ true → waiting_in o l (e ∷ es) ≡ []
    ended_next made so_far now whole =
        grind (arith, so_far, or_parts, ends_now, none_left, whole_was, unowed)

  ended : (es : List Entry) → IsPlayedIn o es → is_open l es ≡ false → is_whole l es ≡ true
      → waiting_in o l es ≡ []
  ended [] legal now whole = refl
  ended (e ∷ es) legal now whole = ended_next es legal.1 e legal.0 (ended es legal.1) now whole

-- ---- how many frames a side takes

side_few : (s : Start) (up : Bool) → length (whole_side s up) ≤ 3
side_few s up = grind arith

taken_few : (o : Opening) (oe : Option Opened) (ts : List Taken) → Far o oe ts
    → whole_by oe ts ≡ false → length ts ≤ 2
taken_few o None ts none w = grind (arith, none)
taken_few o (Some x) ts walk w =
    less (length (whole_side x.start (was_up ts))) (length ts) (side_few x.start (was_up ts)) w
  where
    less : (a n : ℕ) → a ≤ 3 → nat_le a n ≡ false → n ≤ 2
    less a n le q = grind (arith, le, q, le-leb)

-- at most six frames wait for a link whose side isn't whole, and five while it is open
pub early : (h : History) → IsPlayed h → (l : ℕ) → is_whole l h.entries ≡ false
    → length (waiting h l) + cond (is_open l h.entries) 1 0 ≤ 6
early h legal l w =
    let frames =
    taken_few h.opening (opened l h.entries) (taken l h.entries)
    (far _ _ legal l) w in
    let waits = few h.opening l h.entries legal w in
    omega (arith, frames, waits)

pub early_few : (h : History) → IsPlayed h → (l : ℕ) → is_whole l h.entries ≡ false
    → length (waiting h l) ≤ 6
early_few h legal l w = (let it = early h legal l w in omega (arith, it))

-- at most six wait for a link that isn't open
pub closed_few : (h : History) → IsPlayed h → (l : ℕ) → is_open l h.entries ≡ false
    → length (waiting h l) ≤ 6
closed_few h legal l now = grind (arith, ended, early_few)
