-- Sources are numbers of entries, and they rise.
use Rattle.frame_laws.proofs
use proofs.Words.{arith, Entry, History, IsPlayedIn, List, Opening, out_in, OutFrame, owed, owes}
use proofs.Words.{Owing, past, slice_get, Some, source_at, ℕ, [], ◌∷◌, ◌≡◌, ◌≤◌}
use proofs.Places.{AllOwed, holds_then, HoldsThen, InFirst, InSecond, owed_here, part, Parted}

-- the frame that has this source
pub record IsFrameOf (owings : List Owing) (n k : ℕ) : Type 0 where
  pub owing : Owing
  pub stands : slice_get owings n ≡ Some owing
  pub source : owing.source ≡ k

pub frame_at : (owings : List Owing) (n k : ℕ) → source_at n owings ≡ Some k → IsFrameOf owings n k
frame_at = grind arith

module _ (o : Opening) (l : ℕ) where
  abbrev IsAny : History → OutFrame → Type 0
  IsAny h f = Unit {0}

  any : (es : List Entry) → AllOwed o l IsAny es
  any [] = tt
  any (e ∷ es) = (λ m f q. tt, any es)

  pub is_entry : (es : List Entry) → IsPlayedIn o es → (n : ℕ) (x : Owing)
      → slice_get (out_in o l es) n ≡ Some x → HoldsThen o l IsAny es x
  is_entry es legal = holds_then o l IsAny es legal (any es)

  pub rises : (es : List Entry) → IsPlayedIn o es → (m n : ℕ) (x y : Owing) → m ≤ n
      → slice_get (out_in o l es) m ≡ Some x → slice_get (out_in o l es) n ≡ Some y
      → x.source ≤ y.source
  rises [] legal m n x y le p q = grind arith
  rises (e ∷ es) legal m n x y le p q = by (rises es legal.1 m n x y le)
      (part (out_in o l es) (owes (past o es) l e) m x p)
      (part (out_in o l es) (owes (past o es) l e) n y q)
    where
      by : (slice_get (out_in o l es) m ≡ Some x → slice_get (out_in o l es) n ≡ Some y
          → x.source ≤ y.source) → Parted (out_in o l es) (owes (past o es) l e) m x
          → Parted (out_in o l es) (owes (past o es) l e) n y → x.source ≤ y.source
      by so_far (InFirst a less) (InFirst b few) = so_far a b
      by so_far (InFirst a less) (InSecond j is b) =
          grind (
            arith,
            owed_here e.number (owed (past o es) l e.number e.event e.verdict) j y b,
            is_entry,
          )
      by so_far (InSecond i is a) c = grind (arith, owed_here)
