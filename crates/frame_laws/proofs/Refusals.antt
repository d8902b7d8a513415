-- A frame that was accepted: its link is open, and within a handshake nobody becomes heard or told.
use Rattle.frame_laws.proofs
use proofs.Words.{Accepted, ap, arith, awaits, Bool, but, done_now, Entry, false, first_broken}
use proofs.Words.{Frame, frame_checks, framed_heard, fresh, heard, History, is_last, is_message}
use proofs.Words.{is_open, IsPlayed, IsStep, List, None, not, proved_heard, refl, Reply, told, true}
use proofs.Words.{ℕ, [], ◌&&◌, ◌∷◌, ◌≡◌}

-- who is heard or told after an entry that says nothing was so before
pub was_so : (ended opens whole said : Bool) → (((not ended && opens) && whole) && said) ≡ true
    → ((opens && whole) && said) ≡ true
was_so = grind arith

module _ (h : History) (e : Entry) (k : ℕ) (body : List ℕ) (r : Reply)
    (made : IsStep h (but e (Frame k body) (Accepted r))) (l : ℕ) (same_link : k ≡ l) where
  abbrev fr : Entry
  fr = but e (Frame k body) (Accepted r)

  -- no rule is broken
  pub found : (is_open l h.entries ≡ true)
      × (first_broken (frame_checks h l body (awaits l h.entries)) ≡ None)
  found = grind arith

  pub record WasSo (s : List ℕ) : Type 0 where
    pub heard_so : heard h.opening l s (fr ∷ h.entries) ≡ true
        → heard h.opening l s h.entries ≡ true
    pub told_so : told h.opening l s (fr ∷ h.entries) ≡ true → told h.opening l s h.entries ≡ true

  pub within_hello : IsPlayed h → is_message (awaits l h.entries) ≡ false → (s : List ℕ) → WasSo s
  within_hello legal unlike s = by (is_last (awaits l h.entries)) refl
    where
      its : Frame k body ≡ Frame l body
      its = ap (λ j. Frame j body) same_link

      by : (b : Bool) → is_last (awaits l h.entries) ≡ b → WasSo s
      by false inner =
          grind (arith, framed_heard h legal fr made refl l body its unlike inner l s)
      by true last =
          let done = done_now h.opening h.entries legal [] fr
          (fresh h.opening h.entries legal fr made) l body found.0 last in
          grind (
            arith,
            proved_heard h legal fr made refl l body its done.peer last done.was_of l s,
          )
