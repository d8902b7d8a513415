-- What each other event says of a scope to a link, and so what every entry says.
use Rattle.frame_laws.proofs
use proofs.Refusals.{found, was_so, within_hello}
use proofs.Words.{Accepted, always, ap, arith, Awaited, AwaitMessage, awaits, Begun, begun, Bool}
use proofs.Words.{but, ByDial, ByPeer, completed, cond, Entry, eqb-true, Event, false, first_broken}
use proofs.Words.{Frame, frame_checks, frame_owes, frame_taken, heard, History, if_visible}
use proofs.Words.{is_message, is_whole, IsListing, IsNode, IsStep, IsText, IsWritten, link_version}
use proofs.Words.{List, local_rows, local_rows_are, Message, Message2, message_checks}
use proofs.Words.{message_heard, message_owes, None, Opening, opening_heard, Option}
use proofs.Words.{option_and_then, option_map_or, OutFrame, owed, own, Part, PartKind, past, Pid}
use proofs.Words.{refl, refusal_owes, Refused, Reply, Row, row, rows_of, Rule, Said, said_at}
use proofs.Words.{said_frames, same, same_decides, Some, Speaks, subst, sym, tells, told, true}
use proofs.Words.{unwrap_or, Verdict, whole_is_message, wide, ℕ, [], ◌++◌, ◌==◌, ◌∙◌, ◌∷◌, ◌≡◌}
use proofs.Calm.{AllCalm, calm_asks, calm_closed, calm_down, calm_hello, calm_message, HasNoRows}
use proofs.Handshakes.{dial_all, frame_all, HoldsOfHellos, of_hellos, refusal_all}
use proofs.RowsTell.{exit_tells, join_tells, leave_tells}
use proofs.Spoken.{node_before, speaks_now}
use proofs.Telling.{AllTell, EntryTells, Silent, Spoke, Tells, told_sync}
use proofs.Sayable.{downs_sayable, IsSayable, reads}
use proofs.OwnMessages.{asked_text, asked_room, sync_is}

-- a message with rows tells nobody anew
rows_tell_none : (s : List ℕ) (b : Option Begun) (kind : PartKind) (t : List ℕ) (number : ℕ)
    (last : Bool) (rows : List Row) (n : Message)
    → completed b (Part kind t number last rows) ≡ Some n → tells s (Said n) ≡ None
rows_tell_none = grind arith

-- a Down is no part of rows
down_quiet_in : (v : ℕ) (s t : List ℕ) → IsText t → HasNoRows v s (wide (Message.Down t) ∷ [])
down_quiet_in v s t text =
    grind (arith, reads v (Message.Down t) (downs_sayable v t text))

module _ (o : Opening) (es : List Entry) (e : Entry) (node : IsNode (past o es)) (l v : ℕ)
    (agrees : is_whole l es ≡ true → link_version o l es ≡ v) (s : List ℕ) where
  abbrev h : History
  h = past o es

  abbrev TellsOf : Event → Verdict → Type 0
  TellsOf ev w = EntryTells v o l s (but e ev w) es

  quiet : AllCalm v s []
  quiet = (calm_closed v s).nothing

  hellos_calm : HoldsOfHellos h l (AllCalm v s)
  hellos_calm = of_hellos h l (AllCalm v s) (calm_hello v s)

  -- ---- refusals

  refused_calm : (ev : Event) (r : Rule) → AllCalm v s (owed h l e.number ev (Refused r))
  refused_calm (Frame k body) r = by (k == l)
    where
      by : (b : Bool) → AllCalm v s (cond b (refusal_owes r) [])
      by true = refusal_all h node l (AllCalm v s) (calm_closed v s) hellos_calm (calm_asks v s) r
      by false = quiet
  refused_calm ev r = quiet

  refused_told : (ev : Event) (r : Rule) → told o l s (but e ev (Refused r) ∷ es) ≡ told o l s es
  refused_told = grind arith

  refused_tells : (ev : Event) (r : Rule) → IsStep h (but e ev (Refused r)) → TellsOf ev (Refused r)
  refused_tells ev r = grind (arith, refused_calm ev r, refused_told)

  -- ---- scopes

  visible_calm : (m : Message) → AllCalm v s (wide m ∷ []) → AllCalm v s (if_visible h l m)
  visible_calm m calm = grind (arith, quiet)

  start_tells : (t : List ℕ) (r : Reply) → IsStep h (but e (Event.StartScope t) (Accepted r))
      → IsText t → TellsOf (Event.StartScope t) (Accepted r)
  start_tells t r next text =
      grind (arith, visible_calm (Message.Discover t) (calm_asks v s t text), same_decides)

  down_quiet : (t : List ℕ) → IsText t → HasNoRows v s (if_visible h l (Message.Down t))
  down_quiet = grind (arith, down_quiet_in)

  stop_tells : (t : List ℕ) (r : Reply) → IsText t → TellsOf (Event.StopScope t) (Accepted r)
  stop_tells = grind (arith, down_quiet, calm_down)

  -- ---- links

  dial_tells : (n : List ℕ) (c : ℕ) (r : Reply) → IsStep h (but e (Event.Dial n c) (Accepted r))
      → TellsOf (Event.Dial n c) (Accepted r)
  dial_tells n c r next =
      Silent (dial_all h node l (AllCalm v s) (calm_closed v s) hellos_calm (calm_asks v s)
      (calm_hello v s _ refl) (e.number == l))
      (λ told. (
        sym (opening_heard h (but e (Event.Dial n c) (Accepted r)) refl node.legal
            next (ByDial n c) refl l s).told_is ∙ told,
        λ g p. refl,
      ))

  opened_tells : (c : ℕ) (r : Reply) → IsStep h (but e (Event.Opened c) (Accepted r))
      → TellsOf (Event.Opened c) (Accepted r)
  opened_tells c r next =
      grind (
        arith,
        opening_heard h (but e (Event.Opened c) (Accepted r)) refl node.legal next (ByPeer c) refl l
            s,
      )

  -- ---- frames

  module _ (k : ℕ) (body : List ℕ) (r : Reply)
      (next : IsStep h (but e (Frame k body) (Accepted r))) where
    abbrev fr : Entry
    fr = but e (Frame k body) (Accepted r)

    made : IsStep h fr
    made = next

    abbrev Now : List OutFrame → Type 0
    Now = Tells v s (told o l s es) (told o l s (fr ∷ es)) (own h s) (own (past o (fr ∷ es)) s)

    -- of another link
    other_told : (k == l) ≡ false → told o l s (fr ∷ es) ≡ true → told o l s es ≡ true
    other_told = grind (arith, was_so)

    -- its own link: open, and no rule is broken
    module _ (same_link : k ≡ l) where
      its : Frame k body ≡ Frame l body
      its = grind arith

      handshake : (a : Awaited) → awaits l es ≡ a → is_message a ≡ false
          → Now (frame_owes h l body a)
      handshake a is unlike =
          Silent (frame_all h node l (AllCalm v s) (calm_closed v s) hellos_calm (calm_asks v s)
          body a (λ q m says. cc))
          (λ t. (
            (within_hello h e k body r next l same_link node.legal (grind arith) s).told_so t,
            λ g p. refl,
          ))

      module _ (a : awaits l es ≡ AwaitMessage) where
        whole_now : is_whole l es ≡ true
        whole_now = grind (arith, whole_is_message)

        -- what a message makes of who is told
        now_told : (m : Message) → said_at o l es body ≡ Some m → told o l s (fr ∷ es)
            ≡ cond (l == l) (unwrap_or (tells s (Said m)) (told o l s es))
            (told o l s es)
        now_told m says = (message_heard h node.legal fr made refl l body its m a says l s).told_is

        -- a part that completes nothing tells nobody anew
        told_on : said_at o l es body ≡ None → told o l s (fr ∷ es) ≡ true → told o l s es ≡ true
        told_on = grind arith

        synced : (t : List ℕ) → frame_taken o l es body ≡ Some (Message2.Discover t)
            → first_broken (message_checks h l (Message2.Discover t)) ≡ None
            → Now (message_owes h l (Message2.Discover t))
        synced t says met =
            subst (λ fs. Now (fs ++ rest)) (ap (λ n. said_frames n sync) (sym (agrees whole_now)))
            (by (same t s) refl)
          where
            sync : Message
            sync = Message.Sync t (local_rows h t)

            rest : List OutFrame
            rest = cond (heard o l t es) [] (wide (Message.Discover t) ∷ [])

            text : IsText t
            text = asked_text h node l t met

            told_now : same t s ≡ false → told o l s (fr ∷ es) ≡ true → told o l s es ≡ true
            told_now = grind arith

            back : (b : Bool) → AllCalm v s (cond b [] (wide (Message.Discover t) ∷ []))
            back true = quiet
            back false = calm_asks v s t text

            all_rows : same t s ≡ true → (g : List ℕ) (p : Pid)
                → rows_of g p (local_rows h t) ≡ own (past o (fr ∷ es)) s g p
            all_rows is g p =
                grind (arith, same_decides, IsListing.counts (local_rows_are h s) (row g p))

            sayable : IsSayable v sync
            sayable = sync_is h node l v agrees whole_now t met

            by : (c : Bool) → same t s ≡ c → Now (said_frames v sync ++ rest)
            by true is =
                let here = (same_decides t s).0 is in
                Spoke [] PartKind.Sync (local_rows h t) rest
                (ap (λ u. said_frames v (Message.Sync u (local_rows h t)) ++ rest) here)
                quiet (back (heard o l t es))
                (subst (λ u. IsSayable v (Message.Sync u (local_rows h t))) here sayable)
                (told_sync (asked_room h node l v agrees whole_now t met) (all_rows is))
            by false other = Silent ((calm_closed v s).both (said_frames v sync) rest
                (calm_message v s sync sayable other) (back (heard o l t es)))
                (λ q. (told_now other q, λ g p. refl))

        -- nor does another message
        others_told : (m : Message2) → frame_taken o l es body ≡ Some m
            → ((n : Message) → completed (begun o l es) m ≡ Some n
            → unwrap_or (tells s (Said n)) (told o l s es) ≡ true → told o l s es ≡ true)
            → told o l s (fr ∷ es) ≡ true → told o l s es ≡ true
        others_told m says only q = by (completed (begun o l es) m) refl
          where
            at_m : said_at o l es body ≡ completed (begun o l es) m
            at_m = ap (option_and_then (completed (begun o l es))) says

            by : (x : Option Message) → completed (begun o l es) m ≡ x → told o l s es ≡ true
            by None is = told_on (at_m ∙ is) q
            by (Some n) is = only n is (grind (arith, now_told n (at_m ∙ is)))

        said_so : (m : Message2) → frame_taken o l es body ≡ Some m
            → first_broken (message_checks h l m) ≡ None
            → Now (message_owes h l m)
        said_so (Message2.Discover t) says met = synced t says met
        said_so (Message2.Down t) says met = grind arith
        said_so (Part kind t number last rows) says met = Silent quiet
            (λ q. (
              others_told (Part kind t number last rows) says
                  (λ n is now. sym (ap (λ x. unwrap_or x (told o l s es))
                  (rows_tell_none s (begun o l es) kind t number last rows n is)) ∙ now) q,
              λ g p. refl,
            ))

        message : first_broken (frame_checks h l body AwaitMessage) ≡ None
            → Now (frame_owes h l body AwaitMessage)
        message q = by (frame_taken o l es body) refl q
          where
            by : (x : Option Message2) → frame_taken o l es body ≡ x
                → first_broken (option_map_or (message_checks h l) x (always Rule.BadFrame))
                ≡ None → Now (option_map_or (message_owes h l) x [])
            by None says q = cc
            by (Some m) says q = said_so m says q

      own_frame : (a : Awaited) → awaits l es ≡ a → Now (frame_owes h l body a)
      own_frame AwaitMessage is =
          message is (rw is at (found h e k body r next l same_link).1)
      own_frame a is = handshake a is refl

    frame_tells : TellsOf (Frame k body) (Accepted r)
    frame_tells = by (k == l) refl
      where
        by : (b : Bool) → (k == l) ≡ b
            → Now (cond b (frame_owes h l body (awaits l es)) [])
        by true is = own_frame (eqb-true k l is) (awaits l es) refl
        by false other =
            Silent quiet (λ t. (other_told other t, λ g p. refl))

  -- ---- every entry

  entry_tells : (ev : Event) (w : Verdict) → IsStep h (but e ev w) → IsWritten ev → TellsOf ev w
  entry_tells ev (Refused r) next text = refused_tells ev r next
  entry_tells (Event.StartScope t) (Accepted r) next text = start_tells t r next text
  entry_tells (Event.StopScope t) (Accepted r) next text = stop_tells t r text
  entry_tells (Event.Exit x) (Accepted r) next text = exit_tells o es e node l v agrees s x r
  entry_tells (Event.Join t g ps) (Accepted r) next text =
      join_tells o es e node l v agrees s g ps r t next text
  entry_tells (Event.Leave t g ps) (Accepted r) next text =
      leave_tells o es e node l v agrees s g ps r t text
  entry_tells (Event.Dial n c) (Accepted r) next text = dial_tells n c r next
  entry_tells (Event.Opened c) (Accepted r) next text = opened_tells c r next
  entry_tells (Frame k body) (Accepted r) next text = frame_tells k body r next
  entry_tells Event.Restart (Accepted r) next text = Silent quiet (λ t. cc)
  entry_tells ev (Accepted r) next text = grind arith

pub all_tell : (o : Opening) (es : List Entry) → IsNode (past o es) → (l v : ℕ)
    → Speaks o l v es → (s : List ℕ) → AllTell v o l s es
all_tell o [] node l v speaks s = tt
all_tell o (e ∷ es) node l v speaks s =
    let before = node_before o e es node in (
      entry_tells o es e before l v (speaks_now o l v es speaks.1) s e.event e.verdict
          node.legal.0 node.written.0,
      all_tell o es before l v speaks.1 s,
    )
