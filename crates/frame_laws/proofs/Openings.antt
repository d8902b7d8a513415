-- A link has the number of the entry that opened it; before that nothing is owed to it, and while
-- it is open the creation stays.
use Rattle.frame_laws.proofs
use proofs.Words.{arith, creation, entered, Entry, is_open, is_opened_by, IsPlayedIn, List, moment}
use proofs.Words.{Opened, opened, Opening, opening_of, out_in, past, refl, Some, Start, suc, true}
use proofs.Words.{unowed, zero, ℕ, [], ◌<◌, ◌∷◌, ◌≡◌, ◌≤◌}
use proofs.Handing.{unborn_open}
use proofs.Places.{earlier_moment}

pub opened_number : (l : ℕ) (e : Entry) → is_opened_by l e ≡ true → e.number ≡ l
opened_number = grind arith

module _ (o : Opening) where
  -- its number is that of an entry
  pub opening_low : (es : List Entry) → IsPlayedIn o es → (l : ℕ) (st : Start)
      → opening_of l es ≡ Some st → l ≤ entered es
  opening_low [] legal l st q = grind arith
  opening_low (e ∷ es) legal l st q =
      grind (arith, opening_low es legal.1 l st)

  -- before it is opened nothing is owed to it
  pub unborn_out : (es : List Entry) → IsPlayedIn o es → (l : ℕ) → entered es < l
      → out_in o l es ≡ []
  unborn_out [] legal l above = refl
  unborn_out (e ∷ es) legal l above = grind (arith, unborn_out es legal.1 l, unowed, unborn_open)

  -- an open link was opened by an entry
  pub open_low : (es : List Entry) → IsPlayedIn o es → (l : ℕ) → is_open l es ≡ true
      → l ≤ entered es
  open_low = grind (arith, unborn_open)

  -- while it is open the creation is the one at its opening
  pub same_creation : (es : List Entry) → IsPlayedIn o es → (l : ℕ) → is_open l es ≡ true
      → creation (past o es) ≡ creation (moment l (past o es))
  same_creation [] legal l opens = cc
  same_creation (e ∷ es) legal l opens =
      grind (arith, same_creation es legal.1 l, earlier_moment o e es l, open_low)

-- how a link was opened is how it is said to be opened since the last restart
pub opening_is : (es : List Entry) (l : ℕ) (x : Opened) → opened l es ≡ Some x
    → opening_of l es ≡ Some x.start
opening_is [] l x q = grind arith
opening_is (e ∷ es) l x q = grind (arith, opening_is es l x)

-- a moment of an earlier moment
pub moment_then : (o : Opening) (es : List Entry) (a k : ℕ) → a ≤ k → k ≤ entered es
    → moment a (moment k (past o es)) ≡ moment a (past o es)
moment_then o [] a zero low le = refl
moment_then o [] a (suc k) low le = grind arith
moment_then o (e ∷ es) a k low le =
    grind (arith, moment_then o es a k low)

-- the creation is the one at the opening, which has the number of an entry
pub record IsSinceOpening (o : Opening) (es : List Entry) (l : ℕ) : Type 0 where
  pub same : creation (past o es) ≡ creation (moment l (past o es))
  pub low : l ≤ entered es

pub since_opening : (o : Opening) (es : List Entry) → IsPlayedIn o es → (l : ℕ) (x : Opened)
    → opened l es ≡ Some x → IsSinceOpening o es l
since_opening o [] legal l x q = grind arith
since_opening o (e ∷ es) legal l x q = grind (arith, since_opening o es legal.1 l x)
