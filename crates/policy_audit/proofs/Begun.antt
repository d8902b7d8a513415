-- What is kept of a message whose parts are coming.
use Rattle.policy_audit.proofs
use proofs.Words.{Accepted, always, arith, awaits, Begun, begun, Bool, completed, cond}
use proofs.Words.{Entry, eq-eqb, eqb-true, Event, false, first_broken, frame_checks, frame_taken}
use proofs.Words.{History, is_accepted, is_from, is_open, is_whole, IsPlayed, IsPlayedIn}
use proofs.Words.{judgement, kept_after, List, list_all, list_all-append, Message, Message2}
use proofs.Words.{message_checks, None, opened, Opening, Option, option_and_then, option_map_or}
use proofs.Words.{own, PartKind, past, refl, Row, rows_before, rows_kept, rows_so_far, Rule, same}
use proofs.Words.{so_far, Some, subst, Taken, taken, true, Verdict, whole, whole_checks, ℕ}
use proofs.Words.{[], ◌&&◌, ◌==◌, ◌∷◌, ◌≡◌}
use Rattle.policy_audit.specs.Parted.{moves_parts}
use proofs.Accepted.{accepted, open_first}
use proofs.Walked.{but, fresh}
use proofs.Finished.{given_kept, kept, whole_awaits, whole_kept}
use proofs.Effects.{entry_link}

-- ---- what an event makes of it

module _ (o : Opening) (es : List Entry) (e : Entry) (l : ℕ) where
  pub framed : (body : List ℕ) → e.event ≡ Event.Frame l body → is_accepted e.verdict ≡ true
      → is_whole l es ≡ true
      → begun o l (e ∷ es) ≡ kept_after (begun o l es) (frame_taken o l es body)
  framed body is accepts whole = grind (arith, is, accepts, whole, eq-eqb l l)

  pub stopped : (s : List ℕ) → e.event ≡ Event.StopScope s → is_accepted e.verdict ≡ true
      → begun o l (e ∷ es)
      ≡ cond (option_map_or (λ b. same b.scope s) (begun o l es) false) None (begun o l es)
  stopped s is accepts = grind (arith, is, accepts)

  pub restarted : e.event ≡ Event.Restart → is_accepted e.verdict ≡ true → begun o l (e ∷ es) ≡ None
  restarted is accepts = grind (arith, is, accepts)

  pub others : (is_accepted e.verdict && moves_parts l es e.event) ≡ false
      → begun o l (e ∷ es) ≡ begun o l es
  others quiet = grind arith

-- ---- before its side is whole nothing begins on a link

pub none_begun : (o : Opening) (es : List Entry) → IsPlayedIn o es → (l : ℕ) → is_whole l es ≡ false
    → begun o l es ≡ None
none_begun o [] legal l w = refl
none_begun o (e ∷ es) legal l w = by_event e.event e.verdict (none_begun o es legal.1 l) w
  where
    by_event : (ev : Event) (v : Verdict) → (is_whole l es ≡ false → begun o l es ≡ None)
        → is_whole l (but e ev v ∷ es) ≡ false → begun o l (but e ev v ∷ es) ≡ None
    by_event (Event.Frame k body) (Accepted r) so_far w =
        grind (arith, whole_kept (record { body = body; before = es }) (opened l es) (taken l es))
    by_event ev v so_far w =
        (let new = fresh o es legal.1 e legal.0 in grind (arith, new, eqb-true e.number l))

-- ---- the rows that are kept are of the link's peer

abbrev pub are_peers : ℕ → List Entry → List Row → Bool
are_peers l es rows = list_all (λ r. is_from l es r.pid) rows

-- what stands before a part is kept
before_peers : (l : ℕ) (es : List Entry) (b : Option Begun) (kind : PartKind) (s : List ℕ)
    (number : ℕ) → are_peers l es (rows_kept b) ≡ true
    → are_peers l es (rows_before b kind s number) ≡ true
before_peers l es b kind s number q = grind arith

so_far_peers : (l : ℕ) (es : List Entry) (b : Option Begun) (kind : PartKind) (s : List ℕ)
    (number : ℕ) (rows : List Row) → are_peers l es (rows_kept b) ≡ true
    → are_peers l es rows ≡ true
    → are_peers l es (rows_so_far b kind s number rows) ≡ true
so_far_peers l es b kind s number rows q own =
    grind (arith, list_all-append, before_peers l es b kind s number q)

-- an accepted part is of the peer
part_peers : (h : History) (l : ℕ) (kind : PartKind) (s : List ℕ) (number : ℕ) (last : Bool)
    (rows : List Row)
    → first_broken (message_checks h l (Message2.Part kind s number last rows)) ≡ None
    → are_peers l h.entries rows ≡ true
part_peers h l PartKind.Sync s number last rows q = grind arith
part_peers h l PartKind.Join s number last rows q = grind arith
part_peers h l PartKind.Leave s number last rows q = grind arith

after_peers : (h : History) (l : ℕ) (b : Option Begun) (x : Option Message2)
    → first_broken (option_map_or (message_checks h l) x (always Rule.BadFrame)) ≡ None
    → are_peers l h.entries (rows_kept b) ≡ true
    → are_peers l h.entries (rows_kept (kept_after b x)) ≡ true
after_peers h l b None q kept = kept
after_peers h l b (Some (Message2.Discover s)) q kept = refl
after_peers h l b (Some (Message2.Down s)) q kept = refl
after_peers h l b (Some (Message2.Part kind s number true rows)) q kept = refl
after_peers h l b (Some (Message2.Part kind s number false rows)) q kept =
    so_far_peers l h.entries b kind s number rows kept (part_peers h l kind s number false rows q)

pub kept_peers : (o : Opening) (es : List Entry) → IsPlayedIn o es → (l : ℕ)
    → are_peers l es (rows_kept (begun o l es)) ≡ true
kept_peers o [] legal l = refl
kept_peers o (e ∷ es) legal l =
    by_event e.event e.verdict legal.0.judged (kept_peers o es legal.1 l)
  where
    new : (e.number == l) ≡ true → opened l es ≡ None
    new q = grind (arith, eqb-true, fresh)

    by_event : (ev : Event) (v : Verdict) → v ≡ judgement (past o es) e.seat ev
        → are_peers l es (rows_kept (begun o l es)) ≡ true
        → are_peers l (but e ev v ∷ es) (rows_kept (begun o l (but e ev v ∷ es))) ≡ true
    by_event (Event.Frame k body) (Accepted r) q so_far = by (k == l) refl (is_whole l es) refl
      where
        fr : Entry
        fr = but e (Event.Frame k body) (Accepted r)

        moment : Taken
        moment = record { body = body; before = es }

        by : (a : Bool) → (k == l) ≡ a → (b : Bool) → is_whole l es ≡ b
            → are_peers l (fr ∷ es)
            (rows_kept (cond (a && b) (kept_after (begun o l es) (frame_taken o l es body))
            (begun o l es))) ≡ true
        by true n true w =
            let met = (open_first (is_open k es) (frame_checks (past o es) k body (awaits k es))
            (accepted (past o es) e.seat (Event.Frame k body) r q).0).1 in
            let one : k ≡ l = eqb-true k l n in
            let here = subst
            (λ j. first_broken (frame_checks (past o es) j body (awaits j es)) ≡ None) one met
            in
            let kind = subst (λ a. first_broken (frame_checks (past o es) l body a) ≡ None)
            (whole_awaits (opened l es) (taken l es) w) here in
            let after : are_peers l es
            (rows_kept (kept_after (begun o l es) (frame_taken o l es body))) ≡ true =
            after_peers (past o es) l (begun o l es) (frame_taken o l es body) kind so_far in
            grind (
              arith,
              after,
              n,
              w,
              given_kept moment (opened l es) (taken l es) w,
              kept moment
                  (opened l es) (taken l es) w,
            )
        by true n false w = grind (arith, none_begun o es legal.1 l w)
        by false n b w =
            (let it = entry_link es fr k l body refl n in grind (arith, so_far, it.given, it.peer))
    by_event ev v q so_far = grind (arith, new, none_begun o es legal.1 l)

-- ---- a message that a frame completes meets the rules as a whole

some_is : {A : Type 0} {x y : A} → Some x ≡ Some y → x ≡ y
some_is q = cc

completed_holds : (h : History) (l : ℕ) (f : Message2) (m : Message)
    → are_peers l h.entries (rows_kept (begun h.opening l h.entries)) ≡ true
    → first_broken (message_checks h l f) ≡ None
    → completed (begun h.opening l h.entries) f ≡ Some m → first_broken (whole_checks h l m) ≡ None
completed_holds h l (Message2.Discover s) m peers q is =
    subst (λ x. first_broken (whole_checks h l x) ≡ None) (some_is is) q
completed_holds h l (Message2.Down s) m peers q is =
    subst (λ x. first_broken (whole_checks h l x) ≡ None) (some_is is) q
completed_holds h l (Message2.Part kind s number false rows) m peers q is = cc
completed_holds h l (Message2.Part kind s number true rows) m peers q is =
    subst (λ x. first_broken (whole_checks h l x) ≡ None) (some_is is)
    (grind (
      arith,
      q,
      so_far_peers l h.entries (begun h.opening l h.entries) kind s number rows peers
          (part_peers h l kind s number true rows q),
    ))

pub said_holds : (h : History) → IsPlayed h
    → (l : ℕ) (body : List ℕ) (x : Option Message2) (m : Message)
    → option_and_then (completed (begun h.opening l h.entries)) x ≡ Some m
    → first_broken (option_map_or (message_checks h l) x (always Rule.BadFrame)) ≡ None
    → first_broken (whole_checks h l m) ≡ None
said_holds h legal l body None m is q = cc
said_holds h legal l body (Some f) m is q =
    completed_holds h l f m (kept_peers _ _ legal l) q is
