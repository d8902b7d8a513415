-- A message is owed to a link after it was proved, and no restart comes between.
use Rattle.frame_laws.proofs
use proofs.Words.{Accepted, ack_taken, ap, arith, Awaited, awaits, Bool, but, entered, Entry}
use proofs.Words.{eqb-true, Event, false, filter, flat_map, Frame, frame_owes, History, if_told}
use proofs.Words.{is_restarted_after, is_whole, IsPlayedIn, IsProvedLink, IsStep, IsTrue, List}
use proofs.Words.{list_all, local_rows, Message, message_taken_on, not, Opening, OutFrame, owed}
use proofs.Words.{past, refl, Reply, reply_taken, Row, running_scopes, same_pid, slice_get, Some}
use proofs.Words.{suc, true, Verdict, zero, ℕ, [], ◌+◌, ◌==◌, ◌∷◌, ◌≡◌, ◌≤◌}
use proofs.Places.{AllOwed}

-- ---- a link that is whole was proved

module _ (o : Opening) where
  -- no entry has a later number
  unrestarted : (es : List Entry) → IsPlayedIn o es → (k : ℕ) → entered es ≤ k
      → is_restarted_after k es ≡ false
  unrestarted [] legal k le = refl
  unrestarted (e ∷ es) legal k le = grind (arith, unrestarted es legal.1 k)

  was_proved : (es : List Entry) → IsPlayedIn o es → (l : ℕ) → is_whole l es ≡ true
      → IsProvedLink (past o es) l
  was_proved [] legal l w = cc
  was_proved (e ∷ es) legal l w = by (was_proved es legal.1 l) (is_whole l es) refl
    where
      number : is_whole l es ≡ false → e.number ≡ entered es + 1
      number = grind arith

      by : (is_whole l es ≡ true → IsProvedLink (past o es) l) → (b : Bool) → is_whole l es ≡ b
          → IsProvedLink (past o (e ∷ es)) l
      by so_far true was = grind arith
      by so_far false was = grind (arith, unrestarted es legal.1 e.number)

-- ---- messages are owed to whole links alone

-- no frame is a message
abbrev are_narrow : List OutFrame → Bool
are_narrow fs = list_all (λ f. not f.wide) fs

narrow_at : (fs : List OutFrame) (m : ℕ) (f : OutFrame) → are_narrow fs ≡ true
    → slice_get fs m ≡ Some f → f.wide ≡ false
narrow_at [] m f all q = grind arith
narrow_at (x ∷ fs) zero f all q = grind arith
narrow_at (x ∷ fs) (suc m) f all q = narrow_at fs m f (grind arith) q

module _ (o : Opening) (es : List Entry) (e : Entry) (l : ℕ) where
  all_untold : is_whole l es ≡ false → (say : List ℕ → List Row → Message) (rows : List ℕ → List
      Row) (ss : List (List ℕ)) → flat_map (λ s. if_told (past o es) l s (say s) (rows s)) ss ≡ []
  all_untold un say rows [] = refl
  all_untold un say rows (s ∷ ss) = grind (arith, all_untold un say rows ss)

  framed : (k : ℕ) (body : List ℕ) (r : Reply)
      → IsStep (past o es) (but e (Frame k body) (Accepted r)) → (k == l) ≡ true
      → is_whole l (but e (Frame k body) (Accepted r) ∷ es) ≡ false
      → (a : Awaited) → awaits l es ≡ a → are_narrow (frame_owes (past o es) l body a) ≡ true
  framed k body r made is un x a =
      let its = ap (λ j. Frame j body) (eqb-true k l is) in
      grind (
        arith,
        reply_taken (past o es) (but e (Frame k body) (Accepted r)) made refl l body its,
        ack_taken (past o es) (but e (Frame k body) (Accepted r)) made refl l body its,
        message_taken_on (past o es) (but e (Frame k body) (Accepted r)) made refl l body its,
      )

  -- while the link isn't whole no message is owed to it
  unsaid : (ev : Event) (v : Verdict) → IsStep (past o es) (but e ev v)
      → is_whole l (but e ev v ∷ es) ≡ false → are_narrow (owed (past o es) l e.number ev v) ≡ true
  unsaid (Event.Exit p) (Accepted r) made un =
      grind (
        arith,
        all_untold un (Message.Leave) (λ s. filter (λ x. same_pid x.pid p)
            (local_rows (past o es) s)) (running_scopes (past o es)),
      )
  unsaid (Frame k body) (Accepted r) made un = grind (arith, framed)
  unsaid ev v made un = grind arith

-- ---- along a history

abbrev pub IsSaidUp : ℕ → History → OutFrame → Type 0
IsSaidUp l h f = IsTrue f.wide → IsProvedLink h l

pub all_said_up : (o : Opening) (es : List Entry) → IsPlayedIn o es → (l : ℕ)
    → AllOwed o l (IsSaidUp l) es
all_said_up o [] legal l = tt
all_said_up o (e ∷ es) legal l =
    grind (
      arith,
      was_proved,
      all_said_up o es legal.1 l,
      narrow_at,
      unsaid,
    )
