-- Who is heard in a scope: the scope runs, and the link has a whole side.
use Rattle.policy_audit.proofs
use proofs.Walked.{but, fresh}
use proofs.Words.{Accepted, always, arith, awaits, Begun, begun, Bool, checks, completed}
use proofs.Words.{cond, Entry, eqb-true, Event, false, first_broken, first_of, frame_checks}
use proofs.Words.{frame_taken, hears, History, is_open, is_running, is_whole, IsPlayedIn}
use proofs.Words.{judgement, List, Message, Message2, message_checks, None, opened, Opening, Option}
use proofs.Words.{option_and_then, option_map_or, PartKind, past, refl, Rule, runs, Said, said_at}
use proofs.Words.{same, same_decides, so_far, Some, Stopped, subst, sym, taken, Talk, talk, talk_of}
use proofs.Words.{tells, true, unwrap_or, Verdict, ℕ, [], ◌&&◌, ◌++◌, ◌==◌, ◌∷◌, ◌≡◌}
use proofs.Accepted.{accepted, lie, open_first}
use proofs.Finished.{whole_awaits, whole_kept}

-- the last that was said of s on a link is a Sync
abbrev pub has_sync : List ℕ → List Talk → Bool
has_sync s ts = unwrap_or (first_of (hears s) ts) false

-- the last that was said of s on a link is a Discover
abbrev pub has_discover : List ℕ → List Talk → Bool
has_discover s ts = unwrap_or (first_of (tells s) ts) false

-- ---- the scope runs

-- the scope of a message
abbrev scope_of : Message → List ℕ
scope_of (Message.Discover t) = t
scope_of (Message.Sync t rows) = t
scope_of (Message.Join t rows) = t
scope_of (Message.Leave t rows) = t
scope_of (Message.Down t) = t

-- a message that is accepted is of a scope that runs
scope_runs : (h : History) (k : ℕ) (b : Option Begun) (f : Message2) (m : Message)
    → first_broken (message_checks h k f) ≡ None → completed b f ≡ Some m
    → is_running h (scope_of m) ≡ true
scope_runs h k b (Message2.Part PartKind.Sync t number last rows) m q is = grind arith
scope_runs h k b (Message2.Part PartKind.Join t number last rows) m q is = grind arith
scope_runs h k b (Message2.Part PartKind.Leave t number last rows) m q is = grind arith
scope_runs h k b f m q is = grind arith

taken_runs : (h : History) (k : ℕ) (b : Option Begun) (x : Option Message2) (m : Message)
    → first_broken (option_map_or (message_checks h k) x (always Rule.BadFrame)) ≡ None
    → option_and_then (completed b) x ≡ Some m → is_running h (scope_of m) ≡ true
taken_runs h k b None m q is = cc
taken_runs h k b (Some f) m q is = scope_runs h k b f m q is

-- of a question about s, to which only messages of s give yes, and to which its stop gives no
module _ (s : List ℕ) (asks : Talk → Option Bool)
    (stop : (t : List ℕ) → asks (Stopped t) ≡ cond (same t s) (Some false) None)
    (only : (m : Message) → asks (Said m) ≡ Some true → same (scope_of m) s ≡ true) where
  abbrev says_yes : List Talk → Bool
  says_yes ts = unwrap_or (first_of asks ts) false

  module _ (o : Opening) (es : List Entry) (e : Entry) (l : ℕ) where
    framed : (k : ℕ) (body : List ℕ)
        → first_broken (checks (past o es) e.seat (Event.Frame k body)) ≡ None
        → is_whole k es ≡ true → (m : Message) → said_at o k es body ≡ Some m
        → is_running (past o es) (scope_of m) ≡ true
    framed k body q w m says =
        let met = (open_first (is_open k es) (frame_checks (past o es) k body (awaits k es)) q).1 in
        let kind = subst (λ a. first_broken (frame_checks (past o es) k body a) ≡ None)
        (whole_awaits (opened k es) (taken k es) w) met in
        taken_runs (past o es) k (begun o k es) (frame_taken o k es body) m kind says

    spoken : (x : Option Message)
        → ((m : Message) → x ≡ Some m → is_running (past o es) (scope_of m) ≡ true)
        → (says_yes (talk o l es) ≡ true → is_running (past o es) s ≡ true)
        → says_yes (talk_of x ++ talk o l es) ≡ true → is_running (past o es) s ≡ true
    spoken None runs so_far h = so_far h
    spoken (Some m) runs so_far h = grind (arith, runs m refl, only m, same_decides (scope_of m) s)

    by_event : (ev : Event) (v : Verdict) → v ≡ judgement (past o es) e.seat ev
        → (says_yes (talk o l es) ≡ true → is_running (past o es) s ≡ true)
        → says_yes (talk o l (but e ev v ∷ es)) ≡ true
        → is_running (past o (but e ev v ∷ es)) s ≡ true
    by_event (Event.Frame k body) (Accepted r) q so_far h = by (k == l) refl (is_whole l es) refl h
      where
        by : (a : Bool) → (k == l) ≡ a → (b : Bool) → is_whole l es ≡ b
            → says_yes (cond (a && b) (talk_of (said_at o l es body)) [] ++ talk o l es) ≡ true
            → is_running (past o es) s ≡ true
        by true n true w h =
            spoken (said_at o l es body)
            (framed l body
            (subst (λ j. first_broken (checks (past o es) e.seat (Event.Frame j body)) ≡ None)
            (eqb-true k l n) (accepted (past o es) e.seat (Event.Frame k body) r q).0) w) so_far
            h
        by a n b w h = so_far h
    by_event ev v _ so_far h = grind (arith, stop)

  yes_runs : (o : Opening) (es : List Entry) → IsPlayedIn o es → (l : ℕ)
      → says_yes (talk o l es) ≡ true → is_running (past o es) s ≡ true
  yes_runs o [] legal l h = lie (sym h)
  yes_runs o (e ∷ es) legal l h =
      by_event o es e l e.event e.verdict legal.0.judged (yes_runs o es legal.1 l) h

heard_only : (s : List ℕ) (m : Message) → hears s (Said m) ≡ Some true → same (scope_of m) s ≡ true
heard_only s m q = grind arith

told_only : (s : List ℕ) (m : Message) → tells s (Said m) ≡ Some true → same (scope_of m) s ≡ true
told_only s m q = grind arith

pub heard_runs : (o : Opening) (es : List Entry) → IsPlayedIn o es → (l : ℕ) (s : List ℕ)
    → has_sync s (talk o l es) ≡ true → is_running (past o es) s ≡ true
heard_runs o es legal l s h = yes_runs s (hears s) (λ t. refl) (heard_only s) o es legal l h

pub told_talk_runs : (o : Opening) (es : List Entry) → IsPlayedIn o es → (l : ℕ) (s : List ℕ)
    → has_discover s (talk o l es) ≡ true → is_running (past o es) s ≡ true
told_talk_runs o es legal l s h = yes_runs s (tells s) (λ t. refl) (told_only s) o es legal l h

-- ---- the link is whole

pub heard_whole : (o : Opening) (es : List Entry) → IsPlayedIn o es → (l : ℕ) (s : List ℕ)
    → has_sync s (talk o l es) ≡ true → is_whole l es ≡ true
heard_whole o [] legal l s h = lie (sym h)
heard_whole o (e ∷ es) legal l s h = by_event e.event e.verdict (heard_whole o es legal.1 l s) h
  where
    new : (e.number == l) ≡ true → opened l es ≡ None
    new q = grind (arith, eqb-true, fresh)

    by_event : (ev : Event) (v : Verdict) → (has_sync s (talk o l es) ≡ true → is_whole l es ≡ true)
        → has_sync s (talk o l (but e ev v ∷ es)) ≡ true → is_whole l (but e ev v ∷ es) ≡ true
    by_event (Event.Frame k body) (Accepted r) so_far h =
        grind (arith, whole_kept (record { body = body; before = es }) (opened l es) (taken l es))
    by_event ev v so_far h = grind (arith, new)
