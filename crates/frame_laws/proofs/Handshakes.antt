-- The frames of the handshake, whose bodies spell no message.
use Rattle.frame_laws.proofs
use proofs.Words.{ack_bytes, AckFrame, all_append, AllByRecursion, ap, arith, AwaitAck, AwaitAnswer}
use proofs.Words.{AwaitChallenge, Awaited, AwaitMessage, AwaitName, AwaitReply, AwaitStatus, Bool}
use proofs.Words.{Challenge, challenge_frame, cond, digest_for, discovers, false, frame_owes}
use proofs.Words.{frame_taken, get_or, History, is_dialling, is_name_up, IsNode, IsText, List, map}
use proofs.Words.{Message, Message2, message_owes, message_taken, narrow, None, Option, option_map}
use proofs.Words.{option_map_or, OutFrame, own_challenge, own_challenge_frame, own_name_frame}
use proofs.Words.{read_message, read_message2, refl, refusal_owes, reply_bytes, reply_frame}
use proofs.Words.{ReplyFrame, Rule, Some, SpellsMessage-read, SpellsMessage2-read, status_frame}
use proofs.Words.{status_of, StatusWord, true, true_to, welcome, whole, wide, ℕ, [], ◌++◌, ◌==◌}
use proofs.Words.{◌||◌, ◌∷◌, ◌≡◌}
use proofs.OwnLimits.{scopes_text}

-- ---- bodies

abbrev pub first_byte : List ℕ → ℕ
first_byte body = get_or body 0 0

-- whether a body may begin a message
abbrev pub begins_message : ℕ → Bool
begins_message b = b == 0x44 || b == 0x53 || b == 0x4A || b == 0x4C || b == 0x58

pub taken_new : (v : ℕ) (body : List ℕ) → (v == 2) ≡ true → message_taken v body ≡ read_message2
    body
taken_new = grind arith

pub no_message : (v : ℕ) (body : List ℕ) → begins_message (first_byte body) ≡ false
    → message_taken v body ≡ None
no_message v body q = by (v == 2) (read_message body) refl (read_message2 body) refl
  where
    by : (b : Bool) (x : Option Message) → read_message body ≡ x → (y : Option Message2)
        → read_message2 body ≡ y → cond b (read_message2 body)
        (option_map whole (read_message body)) ≡ None
    by true x p None is = is
    by true x p (Some m) is = grind (arith, SpellsMessage2-read body m is)
    by false None is y p = ap (option_map whole) is
    by false (Some m) is y p = grind (arith, SpellsMessage-read body m is)

pub begins_it : (v : ℕ) (body : List ℕ) (m : Message2) → message_taken v body ≡ Some m
    → begins_message (first_byte body) ≡ true
begins_it = grind (arith, no_message)

-- ---- what holds of each frame of the handshake, and of each Discover of a running scope

-- a fact on lists of frames that holds of two, one behind the other, where it holds of both
pub record IsClosed (L : List OutFrame → Type 0) : Type 0 where
  pub nothing : L []
  pub both : (xs ys : List OutFrame) → L xs → L ys → L (xs ++ ys)

pub all_closed : (P : OutFrame → Type 0) → IsClosed (AllByRecursion P)
all_closed = grind (arith, all_append)

-- it holds of each frame of the handshake that h may owe to link l
pub record HoldsOfHellos (h : History) (l : ℕ) (L : List OutFrame → Type 0) : Type 0 where
  pub status : (w : StatusWord) → L (status_frame w ∷ [])
  pub challenge : L (own_challenge_frame h l ∷ [])
  pub reply : (f : ReplyFrame) → L (narrow (reply_bytes f) ∷ [])
  pub ack : (f : AckFrame) → L (narrow (ack_bytes f) ∷ [])

-- it holds of each whose body spells no message
pub of_hellos : (h : History) (l : ℕ) (L : List OutFrame → Type 0)
    → ((body : List ℕ) → begins_message (first_byte body) ≡ false → L (narrow body ∷ []))
    → HoldsOfHellos h l L
of_hellos = grind arith

module _ (h : History) (node : IsNode h) (l : ℕ) (L : List OutFrame → Type 0) (closed : IsClosed L)
    (hellos : HoldsOfHellos h l L)
    (asks : (s : List ℕ) → IsText s → L (wide (Message.Discover s) ∷ [])) where
  discover_all : (ss : List (List ℕ)) → AllByRecursion IsText ss
      → L (map (λ s. wide (Message.Discover s)) ss)
  discover_all [] texts = closed.nothing
  discover_all (s ∷ ss) texts = closed.both _ _ (asks s texts.0) (discover_all ss texts.1)

  discovers_all : L (discovers h l)
  discovers_all = grind (arith, discover_all, scopes_text)

  welcome_all : (n : List ℕ) → L (welcome h l n)
  welcome_all n = by (is_name_up n h.entries) (is_dialling n h.entries)
    where
      by : (b c : Bool) → L (cond b (status_frame StatusWord.Alive ∷ [])
          (cond c (status_frame StatusWord.OkSimultaneous ∷ own_challenge_frame h l ∷ [])
          (status_frame StatusWord.Ok ∷ own_challenge_frame h l ∷ [])))
      by true c = hellos.status StatusWord.Alive
      by false true =
          closed.both _ _ (hellos.status StatusWord.OkSimultaneous) hellos.challenge
      by false false = closed.both _ _ (hellos.status StatusWord.Ok) hellos.challenge

  -- all that is owed for an accepted frame, where it holds of what a message owes
  pub frame_all : (body : List ℕ) (a : Awaited)
      → (a ≡ AwaitMessage → (m : Message2) → frame_taken h.opening l h.entries body ≡ Some m
      → L (message_owes h l m)) → L (frame_owes h l body a)
  frame_all body AwaitName spoken = grind (arith, welcome_all)
  frame_all body AwaitAnswer spoken = hellos.challenge
  frame_all body AwaitReply spoken = by (reply_frame body)
    where
      by : (x : Option ReplyFrame)
          → L (option_map_or (λ f. narrow (ack_bytes (record {
            digest = digest_for h l f.challenge;
          }))
          ∷ discovers h l) x [])
      by None = closed.nothing
      by (Some f) = closed.both _ _ (hellos.ack _) discovers_all
  frame_all body AwaitStatus spoken = by (status_of body)
    where
      by : (x : Option StatusWord) → L (option_map_or true_to x [])
      by (Some StatusWord.Alive) = hellos.status StatusWord.True
      by (Some w) = closed.nothing
      by None = closed.nothing
  frame_all body AwaitChallenge spoken = by (challenge_frame body)
    where
      by : (x : Option Challenge)
          → L (option_map_or
          (λ f. narrow
          (reply_bytes
          (record { challenge = own_challenge l h.entries; digest = digest_for h l f.challenge }))
          ∷ []) x [])
      by None = closed.nothing
      by (Some f) = hellos.reply _
  frame_all body AwaitAck spoken = discovers_all
  frame_all body AwaitMessage spoken = grind arith

  pub refusal_all : (r : Rule) → L (refusal_owes r)
  refusal_all Rule.NotAllowed = hellos.status StatusWord.NotAllowed
  refusal_all Rule.Simultaneous = hellos.status StatusWord.Nok
  refusal_all Rule.LinkUp = hellos.status StatusWord.False
  refusal_all r = closed.nothing

  pub dial_all : L (own_name_frame h ∷ []) → (b : Bool) → L (cond b (own_name_frame h ∷ []) [])
  dial_all = grind arith
