-- What is known over a link after an entry: what its message makes of what was known before.
use Rattle.frame_laws.proofs
use proofs.Words.{Accepted, ap, arith, Awaited, AwaitMessage, awaits, Bool, but, ByDial, ByPeer}
use proofs.Words.{cond, Entry, eqb-true, Event, false, first_broken, Frame, frame_checks, heard}
use proofs.Words.{hears, History, is_message, is_whole, IsPlayedIn, IsStep, known, List, Message}
use proofs.Words.{message_at, message_heard, None, Opening, opening_heard, option_to_list, past}
use proofs.Words.{Pid, refl, Reply, Said, said_at, seen, seen_by, Some, stated_in, sym, Talk, talk}
use proofs.Words.{true, unwrap_or, Verdict, whole_is_message, ℕ, [], ◌&&◌, ◌==◌, ◌∙◌, ◌∷◌, ◌≡◌}
use proofs.Refusals.{was_so, within_hello}

module _ (s g : List ℕ) (p : Pid) where
  -- what a message makes of what was stated, where the peer is heard afterwards
  said_known : (m : Message) (ts : List Talk) (was : Bool) → unwrap_or (hears s (Said m)) was ≡ true
      → Some (stated_in s g p (Said m ∷ ts)) ≡ seen s g p m
      (cond was (Some (cond was (stated_in s g p ts) 0)) None)
  said_known = grind arith

  -- nothing was said: the same is known
  still_known : (o : Opening) (l : ℕ) (x : Entry) (es : List Entry) → heard o l s (x ∷ es) ≡ true
      → heard o l s es ≡ true → stated_in s g p (talk o l (x ∷ es)) ≡ stated_in s g p (talk o l es)
      → known o l s g p (x ∷ es) ≡ known o l s g p es
  still_known = grind arith

module _ (o : Opening) (es : List Entry) (e : Entry) (legal : IsPlayedIn o es) (l : ℕ)
    (s g : List ℕ)
    (p : Pid) where
  abbrev h : History
  h = past o es

  abbrev KnownAfter : Event → Verdict → Type 0
  KnownAfter ev v = heard o l s (but e ev v ∷ es) ≡ true
      → known o l s g p (but e ev v ∷ es)
      ≡ seen_by s g p (message_at o l es v ev) (known o l s g p es)

  -- ---- frames

  module _ (k : ℕ) (body : List ℕ) (r : Reply)
      (next : IsStep h (but e (Frame k body) (Accepted r))) where
    abbrev fr : Entry
    fr = but e (Frame k body) (Accepted r)

    -- what is known afterwards is what a message makes of what was
    abbrev Shown : Type 0
    Shown = known o l s g p (fr ∷ es) ≡ seen_by s g p
        (cond (is_whole l es) (option_to_list (said_at o l es body)) []) (known o l s g p es)

    made : IsStep h fr
    made = next

    other_known : (k == l) ≡ false → heard o l s (fr ∷ es) ≡ true
        → known o l s g p (fr ∷ es) ≡ known o l s g p es
    other_known = grind (arith, was_so)

    module _ (same_link : k ≡ l) where
      its : Frame k body ≡ Frame l body
      its = grind arith

      -- within a handshake nobody is heard
      unheard : is_message (awaits l es) ≡ false → heard o l s (fr ∷ es) ≡ true
          → Shown
      unheard unlike now =
          grind (arith, (within_hello h e k body r next l same_link legal unlike s).heard_so now)

      module _ (a : awaits l es ≡ AwaitMessage) (m : Message)
          (says : said_at o l es body ≡ Some m) where
        whole : is_whole l es ≡ true
        whole = grind (arith, whole_is_message)

        spoken : talk o l (fr ∷ es) ≡ Said m ∷ talk o l es
        spoken = grind (arith, whole)

        heard_now : heard o l s (fr ∷ es) ≡ unwrap_or (hears s (Said m)) (heard o l s es)
        heard_now = grind (
          arith,
          (message_heard h legal fr made refl l body its m a says l s).heard_is,
        )

        said : heard o l s (fr ∷ es) ≡ true
            → known o l s g p (fr ∷ es) ≡ seen s g p m (known o l s g p es)
        said now = grind (
          arith,
          spoken,
          said_known s g p m (talk o l es) (heard o l s es) (sym heard_now ∙ now),
        )

        spoken_at : heard o l s (fr ∷ es) ≡ true
            → Shown
        spoken_at = grind (arith, said, whole)

      message_known : awaits l es ≡ AwaitMessage
          → first_broken (frame_checks h l body AwaitMessage) ≡ None → heard o l s (fr ∷ es) ≡ true
          → Shown
      message_known = grind (arith, spoken_at)

      own_known : (a : Awaited) → awaits l es ≡ a → heard o l s (fr ∷ es) ≡ true
          → Shown
      own_known AwaitMessage is now = grind (arith, message_known)
      own_known a is now = unheard (ap is_message is) now

    frame_known : KnownAfter (Frame k body) (Accepted r)
    frame_known now = by (k == l) refl
      where
        by : (b : Bool) → (k == l) ≡ b
            → known o l s g p (fr ∷ es) ≡ seen_by s g p (cond (b && is_whole l es)
            (option_to_list (said_at o l es body)) []) (known o l s g p es)
        by true is = own_known (eqb-true k l is) (awaits l es) refl now
        by false other = other_known other now

  -- ---- every entry

  pub known_after : (ev : Event) (v : Verdict) → IsStep h (but e ev v) → KnownAfter ev v
  known_after (Frame k body) (Accepted r) next now = grind (arith, frame_known)
  known_after (Event.Dial n c) (Accepted r) next now =
      grind (
        arith,
        opening_heard h (but e (Event.Dial n c) (Accepted r)) refl legal next (ByDial n c) refl l s,
      )
  known_after (Event.Opened c) (Accepted r) next now =
      grind (
        arith,
        opening_heard h (but e (Event.Opened c) (Accepted r)) refl legal next (ByPeer c) refl l s,
      )
  known_after ev v next now = grind arith
