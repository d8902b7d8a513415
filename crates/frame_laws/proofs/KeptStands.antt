-- Where a message was begun on a link that is up, its scope runs, the link is visible, and for a
-- Join and a Leave its peer is heard.
use Rattle.frame_laws.proofs
use proofs.Words.{Accepted, all_hold, always, ap, arith, Begun, begun, Bool, but, completed, cond}
use proofs.Words.{Entry, entry_link, eq-eqb, eqb-true, Event, false, first_broken, Frame}
use proofs.Words.{frame_taken, fresh, has_bit, heard, is_running, is_some, is_up, is_visible}
use proofs.Words.{is_whole, IsPlayedIn, IsStep, judgement, kept_after, List, Message2}
use proofs.Words.{message_checks, None, none_begun, not, opened, Opening, Option, option_and_then}
use proofs.Words.{option_map_or, Part, PartKind, past, refl, Refused, Reply, Rule, said_at, same}
use proofs.Words.{same_decides, Some, start_of, subst, sym, talk, true, unbroken, Verdict, ℕ, []}
use proofs.Words.{◌&&◌, ◌==◌, ◌||◌, ◌∙◌, ◌∷◌, ◌≡◌}
use proofs.Pieces.{value_of}

abbrev pub is_sync : PartKind → Bool
is_sync PartKind.Sync = true
is_sync k = false

module _ (o : Opening) (l : ℕ) where
  pub record Stands (es : List Entry) (k : Begun) : Type 0 where
    pub runs : is_running (past o es) k.scope ≡ true
    pub shows : is_visible (past o es) l ≡ true
    pub hears : (is_sync k.kind || heard o l k.scope es) ≡ true

  abbrev pub AllStand : List Entry → Type 0
  AllStand es = is_up l es ≡ true → (k : Begun) → begun o l es ≡ Some k → Stands es k

  module _ (es : List Entry) (e : Entry) (legal : IsPlayedIn o es) where
    -- ---- a link that was whole, and is up, was up

    pub up_back : opened e.number es ≡ None → (ev : Event) (w : Verdict)
        → is_up l (but e ev w ∷ es) ≡ true → is_whole l es ≡ true → is_up l es ≡ true
    up_back = grind arith

    -- what is begun is begun on a whole link
    pub begun_whole : (k : Begun) → begun o l es ≡ Some k → is_whole l es ≡ true
    begun_whole = grind (arith, none_begun)

    still : IsStep (past o es) e → (ev : Event) (w : Verdict)
        → begun o l (but e ev w ∷ es) ≡ begun o l es
        → ((s : List ℕ) → is_running (past o es) s ≡ true
        → is_running (past o (but e ev w ∷ es)) s ≡ true)
        → (is_whole l es ≡ true → is_visible (past o (but e ev w ∷ es)) l
        ≡ is_visible (past o es) l)
        → talk o l (but e ev w ∷ es) ≡ talk o l es → AllStand es → AllStand (but e ev w ∷ es)
    still made ev w same_begun runs shows same_talk before up k is =
        let was = sym same_begun ∙ is in
        let it = before (up_back (fresh o es legal e made) ev w up (begun_whole k was)) k was in
        grind (arith, begun_whole, runs k.scope)

    -- ---- a part that was accepted

    module _ (body : List ℕ) (r : Reply)
        (q : Accepted r ≡ judgement (past o es) e.seat (Frame l body))
        (whole : is_whole l es ≡ true) where
      abbrev fr : Entry
      fr = but e (Frame l body) (Accepted r)

      pub rules_met : first_broken (option_map_or (message_checks (past o es) l) (frame_taken o l
          es body)
          (always Rule.BadFrame)) ≡ None
      rules_met = grind arith

      kept_talk : said_at o l es body ≡ None
          → talk o l (fr ∷ es) ≡ talk o l es
      kept_talk = grind arith

      part_stands : (x : Option Message2) → frame_taken o l es body ≡ x
          → first_broken (option_map_or (message_checks (past o es) l) x (always Rule.BadFrame))
          ≡ None → is_up l (fr ∷ es) ≡ true → (k : Begun)
          → kept_after (begun o l es) x ≡ Some k
          → Stands (fr ∷ es) k
      part_stands (Some (Part kind s number false rows)) says met up k is =
          let held = all_hold (message_checks (past o es) l
          (Part kind s number false rows)) met in
          let none = kept_talk (ap (option_and_then (completed (begun o l es))) says) in
          subst (Stands (fr ∷ es)) (value_of is) (record {
            runs = unbroken (is_running (past o es) s) held.1.0;
            shows = grind arith;
            hears = grind arith;
          })
      part_stands x says met up k is = cc

      pub framed_stand : AllStand (fr ∷ es)
      framed_stand up k is = part_stands (frame_taken o l es body) refl rules_met up k
          (sym (ap (λ b. cond b (kept_after (begun o l es) (frame_taken o l es body))
          (begun o l es)) (λ i. eq-eqb l l refl i && whole i)) ∙ is)

    -- ---- each event

    stopped_stand : IsStep (past o es) e → (t : List ℕ) (r : Reply) → AllStand es
        → AllStand (but e (Event.StopScope t) (Accepted r) ∷ es)
    stopped_stand made t r before up k is = by (begun o l es) refl is
      where
        by : (x : Option Begun) → begun o l es ≡ x
            → cond (option_map_or (λ y. same y.scope t) x false) None x ≡ Some k
            → Stands (but e (Event.StopScope t) (Accepted r) ∷ es) k
        by None was is = cc
        by (Some j) was is = of (same j.scope t) refl is
          where
            of : (b : Bool) → same j.scope t ≡ b → cond b None (Some j) ≡ Some k
                → Stands (but e (Event.StopScope t) (Accepted r) ∷ es) k
            of true here is = cc
            of false other is =
                let it = before (up_back (fresh o es legal e made) (Event.StopScope t) (Accepted r)
                up (begun_whole j was)) j was in
                let apart : same t j.scope ≡ false = grind (arith, same_decides) in
                grind arith

    new_visible : IsStep (past o es) e → (ev : Event) (r : Reply)
        → is_some (start_of ev) ≡ true → is_whole l es ≡ true
        → is_visible (past o (but e ev (Accepted r) ∷ es)) l ≡ is_visible (past o es) l
    new_visible = grind (arith, fresh)

    pub each_stands : IsStep (past o es) e → AllStand es → (ev : Event) (w : Verdict)
        → w ≡ judgement (past o es) e.seat ev → AllStand (but e ev w ∷ es)
    each_stands made before (Frame j body) (Accepted r) q = by (j == l) refl
        (is_whole l es) refl
      where
        by : (b : Bool) → (j == l) ≡ b → (c : Bool) → is_whole l es ≡ c
            → AllStand (but e (Frame j body) (Accepted r) ∷ es)
        by true is true whole =
            rw (eqb-true j l is) (framed_stand body r (grind (arith, eqb-true j l is)) whole)
        by true is false un = grind (arith, none_begun)
        by false other c whole =
            let it = entry_link es (but e (Frame j body) (Accepted r)) j l body refl other in
            still made (Frame j body) (Accepted r)
            (ap (λ b. cond (b && is_whole l es) (kept_after (begun o l es)
            (frame_taken o l es body)) (begun o l es)) other) (λ s runs. runs)
            (λ w. ap (λ g. not o.hidden && option_map_or (λ f. has_bit 0 f.flags) g false) it.given)
            (it.talk o) before
    each_stands made before (Event.StopScope t) (Accepted r) q = stopped_stand made t r before
    each_stands made before (Event.StartScope t) (Accepted r) q =
        still made (Event.StartScope t) (Accepted r) refl (λ s runs. grind arith)
        (λ w. refl) refl before
    each_stands made before Event.Restart (Accepted r) q = λ up k is. cc
    each_stands made before (Event.Opened c) (Accepted r) q =
        still made (Event.Opened c) (Accepted r) refl (λ s runs. runs)
        (new_visible made (Event.Opened c) r refl) refl before
    each_stands made before (Event.Dial n c) (Accepted r) q =
        still made (Event.Dial n c) (Accepted r) refl (λ s runs. runs)
        (new_visible made (Event.Dial n c) r refl) refl before
    each_stands made before ev (Accepted r) q =
        still made ev (Accepted r) refl (λ s runs. runs) (λ w. refl) refl before
    each_stands made before ev (Refused r) q =
        still made ev (Refused r) refl (λ s runs. runs) (λ w. refl) refl before

  pub all_stand : (es : List Entry) → IsPlayedIn o es → AllStand es
  all_stand [] legal = λ up k is. cc
  all_stand (e ∷ es) legal =
      each_stands es e legal.1 legal.0 (all_stand es legal.1) e.event e.verdict legal.0.judged
