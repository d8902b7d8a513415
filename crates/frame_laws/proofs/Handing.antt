-- What was handed out of a link, and what waits for it, is what was owed to it, in order.
use Rattle.frame_laws.proofs
use proofs.Words.{Accepted, append-nil, append_assoc, arith, Bool, but, drops, ends, entered, Entry}
use proofs.Words.{Event, false, frames_of, handed, is_open, is_opened_by, IsPlayedIn, IsStep}
use proofs.Words.{leb-true, List, map-append, open_opened, Opening, out_in, OutFrame, owed, past}
use proofs.Words.{refl, Reply, sent, true, unborn, unborn_waiting, unowed, Verdict, waiting_in, ℕ}
use proofs.Words.{[], ◌&&◌, ◌++◌, ◌<◌, ◌∙◌, ◌∷◌, ◌≡◌, ◌≤◌}
use proofs.Places.{frames_owing}

-- what was owed and not handed out: it waits, or it was dropped with the link
pub data Rest (o : Opening) (l : ℕ) (es : List Entry) (rest : List OutFrame) : Type 0 where
  Waits : rest ≡ waiting_in o l es → Rest o l es rest
  Dropped : waiting_in o l es ≡ [] → is_open l es ≡ false → l ≤ entered es → Rest o l es rest

pub record IsHanded (o : Opening) (l : ℕ) (es : List Entry) : Type 0 where
  pub rest : List OutFrame
  pub all : sent l es ++ rest ≡ frames_of (out_in o l es)
  is_rest : Rest o l es rest

-- a link whose number no entry has yet isn't open
pub unborn_open : (o : Opening) (es : List Entry) → IsPlayedIn o es → (l : ℕ) → entered es < l
    → is_open l es ≡ false
unborn_open o es legal l = grind (arith, unborn, open_opened l es)

module _ (o : Opening) (es : List Entry) (e : Entry) (l : ℕ) (legal : IsPlayedIn o es)
  where
    abbrev now : Event → Verdict → List OutFrame
    now ev v = owed (past o es) l e.number ev v

    -- an entry that hands nothing out of the link
    module _ (ev : Event) (v : Verdict) (made : IsStep (past o es) (but e ev v))
        (none : handed l ev v ≡ []) where
      total_of : (rest : List OutFrame) → sent l es ++ rest ≡ frames_of (out_in o l es)
          → sent l (but e ev v ∷ es) ++ (rest ++ now ev v)
          ≡ frames_of (out_in o l (but e ev v ∷ es))
      total_of = grind (arith, append-nil, append_assoc, map-append, frames_owing)

      stays : drops l es v ev ≡ false → IsHanded o l es → IsHanded o l (but e ev v ∷ es)
      stays d before = grind (arith, total_of before.rest before.all, unowed)

      -- one that ends the link
      drop_now : drops l es v ev ≡ true → ends l es v ev ≡ true
          → is_opened_by l (but e ev v) ≡ false
          → IsHanded o l es → IsHanded o l (but e ev v ∷ es)
      drop_now d ended other before =
          grind (
            arith,
            total_of before.rest before.all,
            leb-true,
            unborn_waiting (past o es) legal l,
          )

    -- ---- a Take of the link

    -- all that waits is handed out
    module _ (k : ℕ) (frames : List OutFrame) (same : k ≡ l)
        (are : frames ≡ waiting_in o l es) where
      taken : IsHanded o l es
          → IsHanded o l (but e (Event.Take k) (Accepted (Reply.Out frames)) ∷ es)
      taken = grind (arith, append-nil)

    -- ---- each event

    -- an event that ends the link where the test holds
    by_test : (ev : Event) (v : Verdict) → IsStep (past o es) (but e ev v) → handed l ev v ≡ []
        → drops l es v ev ≡ (ends l es v ev && is_open l es) → is_opened_by l (but e ev v) ≡ false
        → IsHanded o l es → IsHanded o l (but e ev v ∷ es)
    by_test ev v made none d other before = by (ends l es v ev && is_open l es) refl
      where
        by : (b : Bool) → (ends l es v ev && is_open l es) ≡ b → IsHanded o l (but e ev v ∷ es)
        by true m = grind (arith, drop_now)
        by false m = stays ev v made none (d ∙ m) before

    step : (ev : Event) (v : Verdict) → IsStep (past o es) (but e ev v) → IsHanded o l es
        → IsHanded o l (but e ev v ∷ es)
    step Event.Restart (Accepted r) made before = grind (arith, drop_now)
    step (Event.Lost k) (Accepted r) made before = grind (arith, drop_now, stays)
    step (Event.Take k) (Accepted r) made before = grind (arith, taken, stays)
    step (Event.Disconnect n) (Accepted r) made before = grind (arith, by_test)
    step (Event.Frame k body) (Accepted r) made before = grind (arith, by_test)
    step ev v made before = grind (arith, stays)

pub all_handed : (o : Opening) (es : List Entry) → IsPlayedIn o es → (l : ℕ) → IsHanded o l es
all_handed o [] legal l = grind arith
all_handed o (e ∷ es) legal l = grind (arith, step, all_handed o es legal.1 l)

-- while the link is open, what waits is the rest
pub open_rest : (o : Opening) (es : List Entry) (l : ℕ) → is_open l es ≡ true → IsHanded o l es
    → sent l es ++ waiting_in o l es ≡ frames_of (out_in o l es)
open_rest = grind arith
