-- What an accepted frame makes of its own link.
use Rattle.policy_audit.proofs
use proofs.Words.{arith, AwaitAck, AwaitAnswer, AwaitChallenge, Awaited, awaited_in, AwaitMessage}
use proofs.Words.{AwaitName, AwaitReply, awaits, AwaitStatus, Bool, ByDial, ByPeer, Challenge}
use proofs.Words.{challenge_frame, cond, ends, Entry, eq-eqb, Event, false, get_or, given, History}
use proofs.Words.{is_accepted, is_name_up, is_open, is_some, is_whole, IsStep, length, List, Name}
use proofs.Words.{name_frame, None, Opened, opened, Option, peer_of, refl, Some, Start, subst, sym}
use proofs.Words.{Taken, taken, true, was_up, whole_side, ℕ, [], ◌++◌, ◌↔◌, ◌∷◌, ◌≡◌}
use proofs.Accepted.{accepted, lie, peer_by}
use proofs.Finished.{awaited_by, given_by, is_message, message_whole, three_of, two_of}
use proofs.Finished.{whole_awaits, whole_by}
pub use proofs.Walked.{hello_of}
use proofs.Walked.{frame_fits, open_opened}

-- ---- over plain frames

-- after one frame more these are what was given, the peer, what is awaited and whether the side is
-- whole
record Made (m : Taken) (oe : Option Opened) (ts : List Taken) (gave : Option Name)
    (of : Option (List ℕ)) (next : Awaited) (ends : Bool) : Type 0 where
  given : given_by oe (ts ++ m ∷ []) ≡ gave
  peer : peer_by oe (ts ++ m ∷ []) ≡ of
  awaits : awaited_by oe (ts ++ m ∷ []) ≡ next
  whole : whole_by oe (ts ++ m ∷ []) ≡ ends

module _ (m : Taken) where
  -- what one frame more makes, by what was awaited
  abbrev Next : Option Opened → List Taken → Awaited → Type 0
  Next oe ts AwaitName = (f : Name) → name_frame m.body ≡ Some f
      → Made m oe ts (Some f) (Some f.name)
      (cond (is_name_up f.name m.before) AwaitAnswer AwaitReply) false
  Next oe ts AwaitAnswer = Made m oe ts (given_by oe ts) (peer_by oe ts) AwaitReply false
  Next oe ts AwaitReply = Made m oe ts (given_by oe ts) (peer_by oe ts) AwaitMessage true
  Next oe ts AwaitStatus = Made m oe ts (given_by oe ts) (peer_by oe ts) AwaitChallenge false
  Next oe ts AwaitChallenge = (f : Challenge) → challenge_frame m.body ≡ Some f
      → Made m oe ts (Some (hello_of f)) (peer_by oe ts) AwaitAck false
  Next oe ts AwaitAck = Made m oe ts (given_by oe ts) (peer_by oe ts) AwaitMessage true
  Next oe ts AwaitMessage = Made m oe ts (given_by oe ts) (peer_by oe ts) AwaitMessage true

  -- the frames of a link that its peer opened
  abbrev from_peer : List Entry → ℕ → Option Opened
  from_peer bo c = Some (record { start = ByPeer c; before = bo })

  named : (bo : List Entry) (c : ℕ) → Next (from_peer bo c) [] AwaitName
  named bo c f q = grind arith

  follows : (bo : List Entry) (c : ℕ) (a : Taken) (up : Bool) → was_up (a ∷ []) ≡ up
      → (ts : List Taken)
      → Next (from_peer bo c) (a ∷ ts)
      (get_or (whole_side (ByPeer c) up) (length (a ∷ ts)) AwaitMessage)
  follows bo c a true u (b ∷ r ∷ ts) = grind (arith, three_of)
  follows bo c a false u (b ∷ ts) = grind (arith, two_of)
  follows bo c a up u ts = grind arith

  next_in : (bo : List Entry) (s : Start) (ts : List Taken)
      → Next (Some (record { start = s; before = bo })) ts (awaited_in s ts)
  next_in bo (ByPeer c) [] = named bo c
  next_in bo (ByPeer c) (a ∷ ts) = follows bo c a (was_up (a ∷ [])) refl ts
  next_in bo (ByDial n c) (a ∷ b ∷ r ∷ ts) = grind (arith, three_of)
  next_in bo (ByDial n c) ts = grind arith

  next : (oe : Option Opened) (ts : List Taken) → is_some oe ≡ true → Next oe ts (awaited_by oe ts)
  next None ts q = lie (sym q)
  next (Some x) ts q = next_in x.before x.start ts

-- ---- of a link

-- after an entry link l was opened as before, and the rest of it is this
pub record IsOnward (l : ℕ) (es : List Entry) (e : Entry) (gave : Option Name)
    (of : Option (List ℕ)) (next : Awaited) (ends : Bool) : Type 0 where
  pub opened : opened l (e ∷ es) ≡ opened l es
  pub given : given l (e ∷ es) ≡ gave
  pub peer : peer_of l (e ∷ es) ≡ of
  pub awaits : awaits l (e ∷ es) ≡ next
  pub whole : is_whole l (e ∷ es) ≡ ends

module _ (h : History) (e : Entry) (made : IsStep h e) (yes : is_accepted e.verdict ≡ true) (l : ℕ)
    (body : List ℕ) (is : e.event ≡ Event.Frame l body) where
  abbrev es : List Entry
  es = h.entries

  abbrev moment : Taken
  moment = record { body = body; before = es }

  -- its link is open
  pub frame_open : is_open l es ≡ true
  frame_open = grind (arith, frame_fits, accepted)

  -- it is the newest of the link's frames
  same_opening : opened l (e ∷ es) ≡ opened l es
  same_opening = grind arith

  pub newest : taken l (e ∷ es) ≡ taken l es ++ moment ∷ []
  newest = grind (arith, eq-eqb l l)

  onward : (gave : Option Name) (of : Option (List ℕ)) (next : Awaited) (ends : Bool)
      → Made moment (opened l es) (taken l es) gave of next ends → IsOnward l es e gave of next ends
  onward gave of next ends m = grind (arith, same_opening, newest, m)

  it_makes : (a : Awaited) → awaits l es ≡ a → Next moment (opened l es) (taken l es) a
  it_makes a q = subst (Next moment (opened l es) (taken l es)) q
      (next moment (opened l es) (taken l es) (open_opened l es frame_open))

  pub name_taken : (f : Name) → awaits l es ≡ AwaitName → name_frame body ≡ Some f
      → IsOnward l es e (Some f) (Some f.name) (cond (is_name_up f.name es) AwaitAnswer AwaitReply)
      false
  name_taken f q named = grind (arith, onward)

  pub answer_taken : awaits l es ≡ AwaitAnswer
      → IsOnward l es e (given l es) (peer_of l es) AwaitReply false
  answer_taken q = onward (given l es) (peer_of l es) AwaitReply false (it_makes AwaitAnswer q)

  pub reply_taken : awaits l es ≡ AwaitReply
      → IsOnward l es e (given l es) (peer_of l es) AwaitMessage true
  reply_taken q = onward (given l es) (peer_of l es) AwaitMessage true (it_makes AwaitReply q)

  pub status_taken : awaits l es ≡ AwaitStatus
      → IsOnward l es e (given l es) (peer_of l es) AwaitChallenge false
  status_taken q = onward (given l es) (peer_of l es) AwaitChallenge false (it_makes AwaitStatus q)

  pub challenge_taken : (f : Challenge) → awaits l es ≡ AwaitChallenge
      → challenge_frame body ≡ Some f
      → IsOnward l es e (Some (hello_of f)) (peer_of l es) AwaitAck false
  challenge_taken f q asked = grind (arith, onward)

  pub ack_taken : awaits l es ≡ AwaitAck
      → IsOnward l es e (given l es) (peer_of l es) AwaitMessage true
  ack_taken q = onward (given l es) (peer_of l es) AwaitMessage true (it_makes AwaitAck q)

  pub message_taken_on : awaits l es ≡ AwaitMessage
      → IsOnward l es e (given l es) (peer_of l es) AwaitMessage true
  message_taken_on q =
      onward (given l es) (peer_of l es) AwaitMessage true (it_makes AwaitMessage q)

-- ---- what an open link awaits

module _ (l : ℕ) (es : List Entry) (opens : is_open l es ≡ true) where
  -- a message, exactly where its side is whole
  pub whole_is_message : (is_whole l es ≡ true) ↔ (awaits l es ≡ AwaitMessage)
  whole_is_message = grind (arith, open_opened l es opens, whole_awaits, message_whole)

  pub unwhole_awaits : is_whole l es ≡ false → is_message (awaits l es) ≡ false
  unwhole_awaits w =
      grind (arith, message_whole (opened l es) (taken l es) (open_opened l es opens))

-- link l was opened by its peer
pub record IsByPeer (l : ℕ) (es : List Entry) : Type 0 where
  pub challenge : ℕ
  pub before : List Entry
  pub opened : opened l es ≡ Some (record { start = ByPeer challenge; before = before })

-- link l was dialled, to this peer
pub record IsByDial (l : ℕ) (es : List Entry) : Type 0 where
  pub peer : List ℕ
  pub challenge : ℕ
  pub before : List Entry
  pub opened : opened l es ≡ Some (record { start = ByDial peer challenge; before = before })
  pub peer_is : peer_of l es ≡ Some peer

-- a frame that an acceptor awaits, and one that a dialler awaits
abbrev pub is_acceptors : Awaited → Bool
is_acceptors AwaitName = true
is_acceptors AwaitAnswer = true
is_acceptors AwaitReply = true
is_acceptors a = false

abbrev pub is_diallers : Awaited → Bool
is_diallers AwaitStatus = true
is_diallers AwaitChallenge = true
is_diallers AwaitAck = true
is_diallers a = false

peers : (c : ℕ) (up : Bool) (a : Taken) (ts : List Taken)
    → is_diallers (get_or (whole_side (ByPeer c) up) (length (a ∷ ts)) AwaitMessage) ≡ false
peers c true a (b ∷ r ∷ ts) = refl
peers c false a (b ∷ ts) = refl
peers c up a ts = refl

peers_in : (c : ℕ) (ts : List Taken) → is_diallers (awaited_in (ByPeer c) ts) ≡ false
peers_in c [] = refl
peers_in c (a ∷ ts) = peers c (was_up (a ∷ [])) a ts

dials_in : (n : List ℕ) (c : ℕ) (ts : List Taken)
    → is_acceptors (awaited_in (ByDial n c) ts) ≡ false
dials_in n c (a ∷ b ∷ r ∷ ts) = refl
dials_in n c ts = refl

some_value : {A : Type 0} (o : Option A) → is_some o ≡ true → (x : A) × (o ≡ Some x)
some_value None q = lie (sym q)
some_value (Some x) q = (x, refl)

module _ (l : ℕ) (es : List Entry) (opens : is_open l es ≡ true) where
  started : (x : Opened) × (opened l es ≡ Some x)
  started = some_value (opened l es) (open_opened l es opens)

  pub by_peer : is_acceptors (awaits l es) ≡ true → IsByPeer l es
  by_peer q = by started.0.start started.1
    where
      by : (s : Start) → opened l es ≡ Some (record { start = s; before = started.0.before })
          → IsByPeer l es
      by (ByPeer c) o = record { challenge = c; before = started.0.before; opened = o }
      by (ByDial n c) o = grind (arith, dials_in)

  pub by_dial : is_diallers (awaits l es) ≡ true → IsByDial l es
  by_dial q = by started.0.start started.1
    where
      by : (s : Start) → opened l es ≡ Some (record { start = s; before = started.0.before })
          → IsByDial l es
      by (ByPeer c) o = grind (arith, peers_in)
      by (ByDial n c) o = grind arith
