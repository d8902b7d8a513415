-- The numbers of steps: what opens a link or owes a frame is an entry of the audit.
use Rattle.frame_laws.proofs
use proofs.Words.{arith, but, entered, Entry, Event, false, is_opened_by, IsStep, List, moment_in}
use proofs.Words.{Opening, OutFrame, owed, past, slice_get, Some, true, Verdict, ℕ, [], ◌+◌, ◌∷◌}
use proofs.Words.{◌≡◌, ◌≤◌}

pub entered_more : (e : Entry) (es : List Entry) → entered es ≤ entered (e ∷ es)
entered_more = grind arith

pub entered_next : (e : Entry) (es : List Entry) → e.number ≡ entered es + 1
    → entered (e ∷ es) ≡ entered es + 1
entered_next = grind arith

-- a moment has no more entries than its number says
pub moment_low : (k : ℕ) (es : List Entry) → entered (moment_in k es) ≤ k
moment_low k [] = omega arith
moment_low k (e ∷ es) = grind (arith, moment_low k es)

module _ (o : Opening) (es : List Entry) (e : Entry) where
  pub owed_number : IsStep (past o es) e → (l m : ℕ) (f : OutFrame)
      → slice_get (owed (past o es) l e.number e.event e.verdict) m ≡ Some f
      → e.number ≡ entered es + 1
  owed_number = grind arith

  -- what opens a link
  pub opens_next : (l : ℕ) (ev : Event) (v : Verdict) → IsStep (past o es) (but e ev v)
      → is_opened_by l (but e ev v) ≡ true → l ≡ entered es + 1
  opens_next = grind arith

  -- so none with an earlier number is opened
  pub unopened : (l : ℕ) (ev : Event) (v : Verdict) → IsStep (past o es) (but e ev v)
      → l ≤ entered es → is_opened_by l (but e ev v) ≡ false
  unopened = grind arith
