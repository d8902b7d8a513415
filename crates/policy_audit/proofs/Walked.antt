-- How far the handshake of a link is, in a history that the policy makes.
use Rattle.policy_audit.proofs
use proofs.Words.{Accepted, ack_frame, AckFrame, allowed, and_frame, arith, awaited_in}
use proofs.Words.{AwaitMessage, awaits, Bool, ByDial, ByPeer, bytes_eq, Challenge, challenge_frame}
use proofs.Words.{checks, cond, cookie, dial_checks, digest_of, entered, Entry}
use proofs.Words.{eqb-true, Event, false, first_broken, get_or, goes_on, History, is_open, is_some}
use proofs.Words.{IsNumbered, IsPlayedIn, IsStep, judgement, length, List, Name, name_frame}
use proofs.Words.{next_number, None, Opened, opened, Opening, Option, option_and_then}
use proofs.Words.{option_map_or, past, refl, reply_frame, ReplyFrame, same, Some, Start, start_of}
use proofs.Words.{status_of, StatusWord, sym, Taken, taken, true, Verdict, was_up}
use proofs.Words.{whole_side, ℕ, [], ◌++◌, ◌<◌, ◌==◌, ◌∷◌, ◌≡◌}
use proofs.Accepted.{accepted, all_hold, Fits, fits, lie, open_first, unbroken}

-- an entry with another event and verdict
abbrev pub but : Entry → Event → Verdict → Entry
but e ev v = record { number = e.number; seat = e.seat; event = ev; verdict = v; change = e.change }

-- a Name of an allowed peer
abbrev pub IsNamed : Opening → Taken → Type 0
IsNamed o a = (f : Name) × (name_frame a.body ≡ Some f) × (allowed (past o a.before) f.name ≡ true)
    × IsPlayedIn o a.before

-- a Reply to the challenge c, by the cookie for the peer that the Name a gave
abbrev pub IsReplied : Opening → ℕ → Taken → Taken → Type 0
IsReplied o c a r = (g : ReplyFrame) × (reply_frame r.body ≡ Some g)
    × (bytes_eq g.digest
    (digest_of (option_map_or (cookie (past o r.before))
    (option_and_then (λ f. Some f.name) (name_frame a.body)) []) c) ≡ true)

abbrev pub IsTrueWord : Taken → Type 0
IsTrueWord b = status_of b.body ≡ Some StatusWord.True

abbrev pub IsWelcomed : Taken → Type 0
IsWelcomed a = (w : StatusWord) × (status_of a.body ≡ Some w) × (goes_on w ≡ true)

abbrev pub IsAsked : List ℕ → Taken → Type 0
IsAsked n b = (f : Challenge) × (challenge_frame b.body ≡ Some f) × (same n f.name ≡ true)

abbrev pub IsAcked : Opening → List ℕ → ℕ → Taken → Type 0
IsAcked o n c r = (g : AckFrame) × (ack_frame r.body ≡ Some g)
    × (bytes_eq g.digest (digest_of (cookie (past o r.before) n) c) ≡ true)

-- what follows the Name a, where a link of that name was up or not
abbrev pub Follow : Opening → ℕ → Taken → Bool → List Taken → Type 0
Follow o c a up [] = Unit {0}
Follow o c a false (r ∷ ts) = IsReplied o c a r
Follow o c a true (b ∷ []) = IsTrueWord b
Follow o c a true (b ∷ r ∷ ts) = IsTrueWord b × IsReplied o c a r

abbrev pub Reach : Opening → List ℕ → ℕ → List Taken → Type 0
Reach o n c [] = Unit {0}
Reach o n c (a ∷ []) = IsWelcomed a
Reach o n c (a ∷ b ∷ []) = IsWelcomed a × IsAsked n b
Reach o n c (a ∷ b ∷ r ∷ ts) = IsWelcomed a × IsAsked n b × IsAcked o n c r

-- the frames of a link with this start, opened after these entries
abbrev pub Walk : Opening → List Entry → Start → List Taken → Type 0
Walk o bo (ByPeer c) [] = Unit {0}
Walk o bo (ByPeer c) (a ∷ ts) = IsNamed o a × Follow o c a (was_up (a ∷ [])) ts
Walk o bo (ByDial n c) ts = (allowed (past o bo) n ≡ true) × Reach o n c ts

abbrev pub Far : Opening → Option Opened → List Taken → Type 0
Far o None ts = ts ≡ []
Far o (Some x) ts = Walk o x.before x.start ts

-- flags, creation, name and version in a Challenge
abbrev pub hello_of : Challenge → Name
hello_of f = record { flags = f.flags; creation = f.creation; name = f.name; version = f.version }

-- how far link l is
abbrev pub FarIn : Opening → ℕ → List Entry → Type 0
FarIn o l es = Far o (opened l es) (taken l es)

-- ---- one more frame

module _ (o : Opening) (es : List Entry) (legal : IsPlayedIn o es) (body : List ℕ) where
  abbrev moment : Taken
  moment = record { body = body; before = es }

  follow : (bo : List Entry) (c : ℕ) (a : Taken) (up : Bool) (ts : List Taken) → Follow o c a up ts
      → Fits (past o es) (Some (record { start = ByPeer c; before = bo })) (a ∷ ts) body
      (get_or (whole_side (ByPeer c) up) (length (a ∷ ts)) AwaitMessage)
      → Follow o c a up (ts ++ moment ∷ [])
  follow bo c a false [] p fit = fit
  follow bo c a true [] p fit = fit
  follow bo c a false (b ∷ ts) p fit = p
  follow bo c a true (b ∷ []) p fit = (p, fit)
  follow bo c a true (b ∷ r ∷ ts) p fit = p

  reach : (bo : List Entry) (n : List ℕ) (c : ℕ) (ts : List Taken) → Reach o n c ts
      → Fits (past o es) (Some (record { start = ByDial n c; before = bo })) ts body
      (awaited_in (ByDial n c) ts) → Reach o n c (ts ++ moment ∷ [])
  reach bo n c [] p fit = fit
  reach bo n c (a ∷ []) p fit = (p, fit)
  reach bo n c (a ∷ b ∷ []) p fit = (p.0, p.1, fit)
  reach bo n c (a ∷ b ∷ r ∷ ts) p fit = p

  walk : (bo : List Entry) (s : Start) (ts : List Taken) → Walk o bo s ts
      → Fits (past o es) (Some (record { start = s; before = bo })) ts body (awaited_in s ts)
      → Walk o bo s (ts ++ moment ∷ [])
  walk bo (ByPeer c) [] p fit = ((fit.0, fit.1, fit.2, legal), tt)
  walk bo (ByPeer c) (a ∷ ts) p fit = (p.0, follow bo c a (was_up (a ∷ [])) ts p.1 fit)
  walk bo (ByDial n c) ts p fit = (p.0, reach bo n c ts p.1 fit)

  pub farther : (oe : Option Opened) (ts : List Taken) → is_some oe ≡ true → Far o oe ts
      → Fits (past o es) oe ts body (option_map_or (λ x. awaited_in x.start ts) oe AwaitMessage)
      → Far o oe (ts ++ moment ∷ [])
  farther None ts s p fit = lie (sym s)
  farther (Some x) ts s p fit = walk x.before x.start ts p fit

-- ---- along a history

-- a link whose number no entry has yet, or that has the number of losses
unopened : (o : Opening) (es : List Entry) → IsPlayedIn o es → (l : ℕ) → (0 < l → entered es < l)
    → opened l es ≡ None
unopened o [] legal l above = refl
unopened o (e ∷ es) legal l above =
    by_event e.event e.verdict legal.0.number (unopened o es legal.1 l (λ q. grind (arith, above)))
  where
    by_event : (ev : Event) (v : Verdict) → IsNumbered (past o es) e.number ev → opened l es ≡ None
        → opened l (but e ev v ∷ es) ≡ None
    by_event ev v here q = grind (arith, here, above, eqb-true e.number l)

pub unborn : (o : Opening) (es : List Entry) → IsPlayedIn o es → (l : ℕ) → entered es < l
    → opened l es ≡ None
unborn o es legal l above = unopened o es legal l (λ q. above)

-- no link has the number of the next step
pub fresh : (o : Opening) (es : List Entry) → IsPlayedIn o es → (e : Entry) → IsStep (past o es) e
    → opened e.number es ≡ None
fresh o es legal e made = grind (arith, unopened, eqb-true)

-- what opens a link has the next number
pub opens_number : (h : History) (e : Entry) → IsStep h e → (st : Start)
    → start_of e.event ≡ Some st → e.number ≡ next_number h
opens_number h e made st begins = grind arith

-- an open link was opened
pub open_opened : (l : ℕ) (es : List Entry) → is_open l es ≡ true → is_some (opened l es) ≡ true
open_opened l [] q = lie (sym q)
open_opened l (e ∷ es) q = grind (arith, open_opened l es)

-- an accepted frame of link k: k is open, and the frame is of the kind that it awaits
pub frame_fits : (o : Opening) (es : List Entry) (seat k : ℕ) (body : List ℕ)
    → first_broken (checks (past o es) seat (Event.Frame k body)) ≡ None
    → (is_open k es ≡ true) × Fits (past o es) (opened k es) (taken k es) body (awaits k es)
frame_fits o es seat k body q = grind (arith, open_first, fits)

pub far : (o : Opening) (es : List Entry) → IsPlayedIn o es → (l : ℕ) → FarIn o l es
far o [] legal l = refl
far o (e ∷ es) legal l = by_event e.event e.verdict legal.0.judged (far o es legal.1 l)
  where
    new : (e.number == l) ≡ true → opened l es ≡ None
    new q = grind (arith, eqb-true, fresh)

    by_frame : (k : ℕ) (body : List ℕ)
        → first_broken (checks (past o es) e.seat (Event.Frame k body)) ≡ None → FarIn o l es
        → (b : Bool) → (k == l) ≡ b
        → Far o (opened l es)
        (and_frame (taken l es) (cond b (Some (record { body = body; before = es })) None))
    by_frame k body q p true same_link = grind (arith, eqb-true, frame_fits, farther, open_opened)
    by_frame k body q p false same_link = p

    by_event : (ev : Event) (v : Verdict) → v ≡ judgement (past o es) e.seat ev → FarIn o l es
        → FarIn o l (but e ev v ∷ es)
    by_event (Event.Dial n c) (Accepted r) q p =
        let may = unbroken (allowed (past o es) n)
        (all_hold (dial_checks (past o es) n)
        (accepted (past o es) e.seat (Event.Dial n c) r q).0).1.0 in
        grind (arith, p, may, new)
    by_event (Event.Frame k body) (Accepted r) q p =
        by_frame k body (accepted (past o es) e.seat (Event.Frame k body) r q).0 p (k == l) refl
    by_event ev v _ p = grind (arith, p, new)
