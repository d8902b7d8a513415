-- What an accepted event met.
use Rattle.policy_audit.proofs
use proofs.Words.{Accepted, ack_frame, AckFrame, allowed, always, answer, answer_checks, ap, arith}
use proofs.Words.{AwaitAck, AwaitAnswer, AwaitChallenge, Awaited, AwaitMessage, AwaitName}
use proofs.Words.{AwaitReply, AwaitStatus, Bool, bytes_eq, Challenge, challenge_checks}
use proofs.Words.{challenge_frame, challenge_in, Check, checks, cond, cookie, digest_checks}
use proofs.Words.{digest_for, digest_of, Event, false, first_broken, frame_checks, goes_on, History}
use proofs.Words.{is_peer_up, is_some, judged, judgement, List, MatchBool, Name, name_checks}
use proofs.Words.{name_frame, None, not, not-false, Opened, opened, Option, option_and_then}
use proofs.Words.{option_map_or, own_challenge, peer_in, peer_of, refl, Reply, reply_frame}
use proofs.Words.{ReplyFrame, Rule, same, Some, status_checks, status_of, StatusWord, subst, Taken}
use proofs.Words.{taken, true, ℕ, [], ◌∷◌, ◌≡◌}

-- what is not so gives anything
pub lie : {P : Type 0} → true ≡ false → P
lie {P} e = subst (λ b. MatchBool b (Unit {0}) P) e tt

pub no_value : {P A : Type 0} {x : A} → Some x ≡ None → P
no_value e = lie (ap is_some e)

module _ (h : History) (seat : ℕ) (e : Event) (r : Reply) where
  by_rule : (x : Option Rule) → Accepted r ≡ judged h seat e x → (x ≡ None) × (r ≡ answer h seat e)
  by_rule x q = grind arith

  -- no rule is broken, and the answer is the policy's
  pub accepted : Accepted r ≡ judgement h seat e → (first_broken (checks h seat e) ≡ None)
      × (r ≡ answer h seat e)
  accepted q = by_rule (first_broken (checks h seat e)) q

-- each of the checks holds
abbrev pub Hold : List Check → Type 0
Hold [] = Unit {0}
Hold (c ∷ cs) = (c.broken ≡ false) × Hold cs

pub all_hold : (cs : List Check) → first_broken cs ≡ None → Hold cs
all_hold [] e = tt
all_hold (c ∷ cs) e = grind (arith, all_hold cs)

pub unbroken : (b : Bool) → not b ≡ false → b ≡ true
unbroken = not-false

pub open_first : (b : Bool) (cs : List Check)
    → first_broken (cond b cs (always Rule.NoSuchLink)) ≡ None
    → (b ≡ true) × (first_broken cs ≡ None)
open_first b cs e = grind arith

abbrev pub peer_by : Option Opened → List Taken → Option (List ℕ)
peer_by oe ts = option_and_then (λ o. peer_in o.start ts) oe

-- the digest of the peer's cookie and the own challenge
abbrev pub own_digest : History → Option Opened → List Taken → List ℕ
own_digest h oe ts =
    digest_of (option_map_or (cookie h) (peer_by oe ts) [])
    (option_map_or (λ o. challenge_in o.start) oe 0)

-- what an accepted frame is, by what its link awaits
abbrev pub Fits : History → Option Opened → List Taken → List ℕ → Awaited → Type 0
Fits h oe ts body AwaitName = (f : Name) × (name_frame body ≡ Some f) × (allowed h f.name ≡ true)
Fits h oe ts body AwaitAnswer = status_of body ≡ Some StatusWord.True
Fits h oe ts body AwaitReply = (g : ReplyFrame) × (reply_frame body ≡ Some g)
    × (bytes_eq g.digest (own_digest h oe ts) ≡ true)
Fits h oe ts body AwaitStatus = (w : StatusWord) × (status_of body ≡ Some w) × (goes_on w ≡ true)
Fits h oe ts body AwaitChallenge = (f : Challenge) × (challenge_frame body ≡ Some f)
    × (option_map_or (λ m. same m f.name) (peer_by oe ts) false ≡ true)
Fits h oe ts body AwaitAck = (g : AckFrame) × (ack_frame body ≡ Some g)
    × (bytes_eq g.digest (own_digest h oe ts) ≡ true)
Fits h oe ts body AwaitMessage = Unit {0}

module _ (h : History) (l : ℕ) (body : List ℕ) where
  named : (x : Option Name) → first_broken (option_map_or (name_checks h) x (always Rule.BadFrame))
      ≡ None → (f : Name) × (x ≡ Some f) × (allowed h f.name ≡ true)
  named None e = no_value e
  named (Some f) e = (f, refl, unbroken (allowed h f.name) (all_hold (name_checks h f) e).1.1.1.1.0)

  answered : (x : Option StatusWord)
      → first_broken (option_map_or answer_checks x (always Rule.BadFrame)) ≡ None
      → x ≡ Some StatusWord.True
  answered x e = grind arith

  welcomed : (up : Bool) (x : Option StatusWord)
      → first_broken (option_map_or (status_checks up) x (always Rule.BadFrame)) ≡ None
      → (w : StatusWord) × (x ≡ Some w) × (goes_on w ≡ true)
  welcomed up None e = no_value e
  welcomed up (Some w) e = (w, refl, grind arith)

  asked : (x : Option Challenge)
      → first_broken (option_map_or (challenge_checks h l) x (always Rule.BadFrame)) ≡ None
      → (f : Challenge) × (x ≡ Some f)
      × (option_map_or (λ m. same m f.name) (peer_of l h.entries) false ≡ true)
  asked None e = no_value e
  asked (Some f) e = (
    f,
    refl,
    unbroken (option_map_or (λ m. same m f.name) (peer_of l h.entries) false)
        (all_hold (challenge_checks h l f) e).1.0,
  )

  digested : {F : Type 0} (digest : F → List ℕ) (x : Option F)
      → first_broken (option_map_or (λ f. digest_checks h l (digest f)) x (always Rule.BadFrame))
      ≡ None → (g : F) × (x ≡ Some g)
      × (bytes_eq (digest g) (digest_for h l (own_challenge l h.entries)) ≡ true)
  digested digest None e = no_value e
  digested digest (Some g) e = (g, refl, unbroken _ (all_hold (digest_checks h l (digest g)) e).0)

  -- no check of a frame is broken: it is one of the kind
  pub fits : (k : Awaited) → first_broken (frame_checks h l body k) ≡ None
      → Fits h (opened l h.entries) (taken l h.entries) body k
  fits AwaitName e = named (name_frame body) e
  fits AwaitAnswer e = answered (status_of body) e
  fits AwaitReply e = digested (λ (f : ReplyFrame). f.digest) (reply_frame body) e
  fits AwaitStatus e = welcomed (is_peer_up h l) (status_of body) e
  fits AwaitChallenge e = asked (challenge_frame body) e
  fits AwaitAck e = digested (λ (f : AckFrame). f.digest) (ack_frame body) e
  fits AwaitMessage e = tt
