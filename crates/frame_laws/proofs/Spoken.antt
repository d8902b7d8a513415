-- Each frame that is owed is one of the handshake, or a message within the grammar, in its parts.
use Rattle.frame_laws.proofs
use proofs.Words.{Accepted, AllByRecursion, arith, Awaited, AwaitMessage, awaits, Bool, cond}
use proofs.Words.{creation, Entry, eqb-true, Event, false, first_broken, flat_map, Frame}
use proofs.Words.{frame_checks, frame_owes, frame_taken, frames_to, heard, History, if_told}
use proofs.Words.{is_empty, is_local, is_of, is_open, is_whole, IsNode, IsText, IsWritten}
use proofs.Words.{judgement, link_version, List, list_all, local_rows, Means, Message, Message2}
use proofs.Words.{message_checks, message_owes, message_taken, narrow, None, Opening, OutFrame}
use proofs.Words.{owed, own, own_name_frame, past, Pid, refl, Refused, Row, running_scopes}
use proofs.Words.{said_frames, SaysOne, Some, Speaks, subst, told, true, Verdict, whole_is_message}
use proofs.Words.{wide, ℕ, [], ◌==◌, ◌∷◌, ◌≡◌}
use proofs.OwnLimits.{scopes_text}
use proofs.Handshakes.{all_closed, begins_message, first_byte, frame_all, HoldsOfHellos, IsClosed}
use proofs.Handshakes.{no_message, of_hellos, refusal_all}
use proofs.Pieces.{pieces}
use proofs.Places.{all_at, AllOwed}
use proofs.Sayable.{asks_alike, asks_sayable, downs_alike, downs_sayable, IsSayable, pieces_meet}
use proofs.Sayable.{reads, reads_hold, rows_said}
use proofs.OwnMessages.{asked_text, exit_is, exit_own, exit_rows, join_is, join_met, join_own}
use proofs.OwnMessages.{join_rows, leave_is, leave_own, leave_rows, sync_is, sync_own}

-- ---- what a frame says

-- one of the handshake or a message, in parts, and its rows are of this node's name and creation
pub record IsSpoken (v : ℕ) (h : History) (f : OutFrame) : Type 0 where
  pub says : SaysOne v f
  pub own : (m : Message2) → message_taken v f.body ≡ Some m
      → is_of h.opening.name (creation h) m ≡ true

hello : (v : ℕ) (h : History) (body : List ℕ) → begins_message (first_byte body) ≡ false
    → IsSpoken v h (narrow body)
hello = grind (arith, no_message)

means : (v : ℕ) (h : History) (f : OutFrame) (m : Message2) → f.wide ≡ true
    → message_taken v f.body ≡ Some m → is_of h.opening.name (creation h) m ≡ true → IsSpoken v h f
means v h f m wide says from = record {
  says = Means m wide says;
  own = λ n also. grind arith;
}

module _ (h : History) (node : IsNode h) where
  -- ---- the frames of each event

  -- the rows of a message are the node's own
  abbrev pub AreOwn : Message → Type 0
  AreOwn m = list_all (λ r. is_local h r.pid) (rows_said m) ≡ true

  -- what holds of each frame of the handshake and of each message that the node may say, and of two
  -- lists where it holds of both, holds of all that an entry owes
  pub record Holds (l v : ℕ) (L : List OutFrame → Type 0) : Type 0 where
    pub closed : IsClosed L
    pub hellos : HoldsOfHellos h l L
    pub asks : (s : List ℕ) → IsText s → L (wide (Message.Discover s) ∷ [])
    pub downs : (s : List ℕ) → IsText s → L (wide (Message.Down s) ∷ [])
    pub said : (m : Message) → IsSayable v m → AreOwn m → L (said_frames v m)

  -- so does what holds of each frame that is no message, and of the frames of each message
  pub holds_of : (l v : ℕ) (L : List OutFrame → Type 0) → IsClosed L
      → ((body : List ℕ) → begins_message (first_byte body) ≡ false → L (narrow body ∷ []))
      → ((m : Message) → IsSayable v m → AreOwn m → L (said_frames v m)) → Holds l v L
  holds_of l v L closed hellos said = record {
    closed = closed;
    hellos = of_hellos h l L hellos;
    asks = λ s text. subst L (asks_alike v s)
        (said (Message.Discover s) (asks_sayable v s text) refl);
    downs = λ s text. subst L (downs_alike v s)
        (said (Message.Down s) (downs_sayable v s text) refl);
    said = said;
  }

  module _ (l v : ℕ)
      (agrees : is_whole l h.entries ≡ true → link_version h.opening l h.entries ≡ v)
      (L : List OutFrame → Type 0) (it : Holds l v L) where
    told_hold : (s : List ℕ) (say : List Row → Message) (rows : List Row)
        → (told h.opening l s h.entries ≡ true → is_empty rows ≡ false → IsSayable v (say rows))
        → AreOwn (say rows) → L (if_told h l s say rows)
    told_hold = grind arith

    exits_hold : (p : Pid) (ss : List (List ℕ)) → AllByRecursion IsText ss
        → L (flat_map (λ s. if_told h l s (Message.Leave s) (exit_rows h node s p)) ss)
    exits_hold p [] texts = it.closed.nothing
    exits_hold p (s ∷ ss) texts =
        grind (
          arith,
          told_hold s (Message.Leave s) (exit_rows h node s p),
          exit_is h node l v agrees s p texts.0,
          exit_own h node s p,
          exits_hold p ss texts.1,
        )

    message_hold : is_whole l h.entries ≡ true → (m : Message2)
        → first_broken (message_checks h l m) ≡ None → L (message_owes h l m)
    message_hold whole (Message2.Discover s) q =
        it.closed.both (frames_to h l (Message.Sync s (local_rows h s)))
        (cond (heard h.opening l s h.entries) [] (wide (Message.Discover s) ∷ []))
        (rw (agrees whole) (it.said (Message.Sync s (local_rows h s))
        (sync_is h node l v agrees whole s q) (sync_own h node s)))
        (by (heard h.opening l s h.entries))
      where
        by : (b : Bool) → L (cond b [] (wide (Message.Discover s) ∷ []))
        by true = it.closed.nothing
        by false = it.asks s (asked_text h node l s q)
    message_hold whole m q = it.closed.nothing

    -- an accepted message met its rules
    message_met : (body : List ℕ) (a : Awaited) → a ≡ AwaitMessage → (m : Message2)
        → frame_taken h.opening l h.entries body ≡ Some m
        → first_broken (frame_checks h l body a) ≡ None
        → first_broken (message_checks h l m) ≡ None
    message_met = grind arith

    -- each frame that an entry owes
    pub owed_hold : (number seat : ℕ) (ev : Event) (v : Verdict)
        → ((number == l) ≡ true → L (own_name_frame h ∷ [])) → v ≡ judgement h seat ev
        → IsWritten ev → L (owed h l number ev v)
    owed_hold number seat (Event.StartScope s) (Accepted r) name q text = grind arith
    owed_hold number seat (Event.StopScope s) (Accepted r) name q text = grind arith
    owed_hold number seat (Event.Exit p) (Accepted r) name q text = exits_hold p (running_scopes h)
        (scopes_text h node)
    owed_hold number seat (Event.Join s g ps) (Accepted r) name q text =
        let met = join_met h node seat s g ps r q in
        told_hold s (Message.Join s) (join_rows h node g ps)
        (join_is h node l v agrees s g ps text.0 text.1 met.alive met.room)
        (join_own h node g ps met.alive)
    owed_hold number seat (Event.Leave s g ps) (Accepted r) name q text =
        told_hold s (Message.Leave s) (leave_rows h node s g ps) (leave_is h node l v agrees s g ps
        text.0)
        (leave_own h node s g ps)
    owed_hold number seat (Event.Dial n c) (Accepted r) name q text = grind arith
    owed_hold number seat (Frame k body) (Accepted r) name q text = by (k == l) refl
      where
        by : (b : Bool) → (k == l) ≡ b → L (cond b (frame_owes h l body (awaits l h.entries)) [])
        by true is =
            let found : (is_open l h.entries ≡ true)
            × (first_broken (frame_checks h l body (awaits l h.entries)) ≡ None) =
            grind (arith, eqb-true k l is) in
            frame_all h node l L it.closed it.hellos it.asks body (awaits l h.entries)
            (λ a m says. message_hold ((whole_is_message l h.entries found.0).1 a) m
            (message_met body (awaits l h.entries) a m says found.1))
        by false is = it.closed.nothing
    owed_hold number seat (Frame k body) (Refused r) name q text =
        grind (arith, refusal_all h node l L it.closed it.hellos it.asks r)
    owed_hold number seat ev v name q text = it.closed.nothing

  -- ---- what each says

  spoken_parts : (v : ℕ) (m : Message) → IsSayable v m → AreOwn m
      → AllByRecursion (IsSpoken v h) (said_frames v m)
  spoken_parts v m can own = reads_hold v (IsSpoken v h)
      (λ p. is_of h.opening.name (creation h) p ≡ true) (means v h) (said_frames v m) (pieces v m)
      (reads v m can) (pieces_meet (λ r. is_local h r.pid) v m own)

  pub each_spoken : (l v : ℕ) → Holds l v (AllByRecursion (IsSpoken v h))
  each_spoken l v = holds_of l v (AllByRecursion (IsSpoken v h)) (all_closed (IsSpoken v h))
      (λ body q. (hello v h body q, tt)) (spoken_parts v)

-- ---- along a history

pub speaks_now : (o : Opening) (l v : ℕ) (es : List Entry) → Speaks o l v es
    → is_whole l es ≡ true → link_version o l es ≡ v
speaks_now o l v [] speaks whole = cc
speaks_now o l v (e ∷ es) speaks whole = speaks.0 whole

-- a node as it was
pub node_before : (o : Opening) (e : Entry) (es : List Entry) → IsNode (past o (e ∷ es))
    → IsNode (past o es)
node_before = grind arith

-- what holds so holds of all that an entry owes
module _ (o : Opening) (e : Entry) (es : List Entry) (node : IsNode (past o (e ∷ es))) (l v : ℕ)
    (speaks : Speaks o l v es) where
  pub entry_holds : (L : List OutFrame → Type 0)
      → Holds (past o es) (node_before o e es node) l v L
      → L (own_name_frame (past o es) ∷ [])
      → L (owed (past o es) l e.number e.event e.verdict)
  entry_holds L it name =
      owed_hold (past o es) (node_before o e es node) l v (speaks_now o l v es speaks) L it e.number
      e.seat e.event e.verdict (λ is. name) node.legal.0.judged node.written.0

  pub entry_says : AllByRecursion (IsSpoken v (past o es))
      (owed (past o es) l e.number e.event e.verdict)
  entry_says = entry_holds (AllByRecursion (IsSpoken v (past o es)))
      (each_spoken (past o es) (node_before o e es node) l v) (hello v (past o es) _ refl, tt)

abbrev pub IsSaid : ℕ → History → OutFrame → Type 0
IsSaid v h f = SaysOne v f

pub all_said : (o : Opening) (es : List Entry) → IsNode (past o es) → (l v : ℕ)
    → Speaks o l v es → AllOwed o l (IsSaid v) es
all_said o [] node l v speaks = tt
all_said o (e ∷ es) node l v speaks = (
  λ m f q. (all_at (IsSpoken v (past o es)) (owed (past o es) l e.number e.event e.verdict)
      (entry_says o e es node l v speaks.1) m f q).says,
  all_said o es (node_before o e es node) l v speaks.1,
)
