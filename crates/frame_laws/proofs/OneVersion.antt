-- A link speaks one version whenever its side is whole.
use Rattle.frame_laws.proofs
use proofs.Numbers.{entered_more, opens_next}
use proofs.Words.{Accepted, ap, arith, Bool, but, ByDial, ByPeer, cond, entered, Entry, Event}
use proofs.Words.{false, Frame, fresh, given, is_open, is_opened_by, is_whole, IsPlayedIn, IsStep}
use proofs.Words.{link_version, List, Name, opened, opened_apart, Opening, Option, option_map_or}
use proofs.Words.{past, refl, Speaks, Taken, taken, true, unborn, Verdict, whole_kept, ℕ, [], ◌&&◌}
use proofs.Words.{◌<◌, ◌==◌, ◌||◌, ◌∙◌, ◌∷◌, ◌≡◌}
use proofs.Spoken.{speaks_now}

module _ (o : Opening) (l : ℕ) where
  -- a link that no entry opened was never whole
  pub never_whole : (v : ℕ) (es : List Entry) → IsPlayedIn o es → entered es < l
      → Speaks o l v es
  never_whole v [] legal above = tt
  never_whole v (e ∷ es) legal above = grind (arith, entered_more, unborn, never_whole v es legal.1)

  -- where a link was whole and no restart came, it is whole, and its peer has given what it had
  pub record StaysWhole (e : Entry) (es : List Entry) : Type 0 where
    pub whole : is_whole l (e ∷ es) ≡ true
    pub given_is : given l (e ∷ es) ≡ given l es

  module _ (e : Entry) (es : List Entry) (legal : IsPlayedIn o es) where
    same_number : (ev : Event) (w : Verdict) → IsStep (past o es) (but e ev w)
        → is_whole l es ≡ true → (e.number == l) ≡ false
    same_number ev w made = grind (arith, fresh o es legal (but e ev w) made)

    stays_whole : (ev : Event) (w : Verdict) → IsStep (past o es) (but e ev w)
        → is_whole l es ≡ true
        → (is_open l (but e ev w ∷ es) || is_whole l (but e ev w ∷ es)) ≡ true
        → StaysWhole (but e ev w) es
    stays_whole (Frame k body) (Accepted r) made was on = by (k == l) refl
      where
        moment : Taken
        moment = record { body = body; before = es }

        by : (b : Bool) → (k == l) ≡ b → StaysWhole (but e (Frame k body) (Accepted r)) es
        by true is = record {
          whole = grind (arith, whole_kept moment (opened l es) (taken l es) was);
          given_is = grind arith;
        }
        by false apart = grind arith
    stays_whole (Event.Opened c) (Accepted r) made was on =
        grind (
          arith,
          opened_apart es (but e (Event.Opened c) (Accepted r)) l (ByPeer c) refl refl
              (same_number (Event.Opened c) (Accepted r) made was),
        )
    stays_whole (Event.Dial n c) (Accepted r) made was on =
        grind (
          arith,
          opened_apart es (but e (Event.Dial n c) (Accepted r)) l (ByDial n c) refl refl
              (same_number (Event.Dial n c) (Accepted r) made was),
        )
    stays_whole ev v made was on = grind arith

    -- and one that is whole and not open was whole
    was_whole : (ev : Event) (w : Verdict) → IsStep (past o es) (but e ev w)
        → is_whole l (but e ev w ∷ es) ≡ true → is_open l (but e ev w ∷ es) ≡ false
        → is_whole l es ≡ true
    was_whole = grind arith

  -- where a link is open and was not, the entry opened it
  opened_here : (e : Entry) (es : List Entry) → is_open l es ≡ false
      → is_open l (e ∷ es) ≡ true → is_opened_by l e ≡ true
  opened_here = grind arith

  -- a link that becomes whole was never so
  newly_whole : (v : ℕ) (e : Entry) (es : List Entry) → IsPlayedIn o es → IsStep (past o es) e
      → is_open l (e ∷ es) ≡ true → is_whole l es ≡ false → Speaks o l v es
  newly_whole v e [] legal made opens un = tt
  newly_whole v e (d ∷ es) legal made opens un =
      by (is_open l (d ∷ es)) refl (is_whole l es) refl (newly_whole v d es legal.1 legal.0)
    where
      by : (b : Bool) → is_open l (d ∷ es) ≡ b → (c : Bool) → is_whole l es ≡ c
          → (is_open l (d ∷ es) ≡ true → is_whole l es ≡ false → Speaks o l v es)
          → Speaks o l v (d ∷ es)
      by false shut c was so_far =
          let next = opens_next o (d ∷ es) e l e.event e.verdict made
          (opened_here e (d ∷ es) shut opens) in
          never_whole v (d ∷ es) legal (omega arith)
      by true o_is false was so_far = ((λ whole. cc), so_far o_is was)
      by true o_is true was so_far =
          grind (arith, stays_whole d es legal.1 d.event d.verdict legal.0 was (grind arith))

  abbrev version_by : Option Name → ℕ
  version_by g = cond (o.links == 2 && option_map_or (Name.version) g 1 == 2) 2 1

  module _ (e : Entry) (es : List Entry) (legal : IsPlayedIn o es) where
    -- a link spoke what it did, if it does so where it is open
    pub speaks_on : (v : ℕ) → IsStep (past o es) e
        → (is_open l (e ∷ es) ≡ true → is_whole l (e ∷ es) ≡ true → link_version o l (e ∷ es) ≡ v)
        → Speaks o l v es → Speaks o l v (e ∷ es)
    speaks_on v made now was = (λ whole. by (is_open l (e ∷ es)) refl whole, was)
      where
        by : (b : Bool) → is_open l (e ∷ es) ≡ b → is_whole l (e ∷ es) ≡ true
            → link_version o l (e ∷ es) ≡ v
        by true opens whole = now opens whole
        by false shut whole =
            let had = was_whole e es legal e.event e.verdict made whole shut in
            let it = stays_whole e es legal e.event e.verdict made had (grind arith) in
            ap version_by it.given_is ∙ speaks_now o l v es was had

  pub one_version : (es : List Entry) → IsPlayedIn o es → (v : ℕ) × Speaks o l v es
  one_version [] legal = (1, tt)
  one_version (e ∷ es) legal = by (is_whole l (e ∷ es)) refl (is_open l (e ∷ es)) refl
      (is_whole l es) refl (one_version es legal.1)
    where
      -- whole as it was
      on : (v : ℕ) → Speaks o l v es → is_whole l es ≡ true → given l (e ∷ es) ≡ given l es
          → (u : ℕ) × Speaks o l u (e ∷ es)
      on = grind (arith, speaks_now)

      by : (a : Bool) → is_whole l (e ∷ es) ≡ a → (b : Bool) → is_open l (e ∷ es) ≡ b → (c : Bool)
          → is_whole l es ≡ c → (v : ℕ) × Speaks o l v es → (u : ℕ) × Speaks o l u (e ∷ es)
      by false un b opens c was it = (it.0, ((λ whole. cc), it.1))
      by true whole b opens true was it = on it.0 it.1 was (StaysWhole.given_is
          (stays_whole e es legal.1 e.event e.verdict legal.0 was (grind arith)))
      by true whole true opens false un it =
          grind (arith, newly_whole (link_version o l (e ∷ es)) e es legal.1 legal.0 opens un)
      by true whole false shut false un it = grind arith
