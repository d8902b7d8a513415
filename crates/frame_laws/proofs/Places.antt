-- Places in lists, and the frames that one entry owes.
use Rattle.frame_laws.proofs
use proofs.Words.{AllByRecursion, arith, entered, Entry, frames_of, History, IsPlayedIn, length}
use proofs.Words.{List, map, moment, Opening, out_in, OutFrame, owed, owes, Owing, owing, past}
use proofs.Words.{refl, slice_get, Some, suc, zero, ℕ, [], ◌++◌, ◌+◌, ◌<◌, ◌∷◌, ◌≡◌, ◌≤◌}
use proofs.Numbers.{owed_number}

module _ {A : Type 0} where
  -- a place in two lists is one in the first or in the second
  pub data Parted (xs ys : List A) (n : ℕ) (x : A) : Type 0 where
    InFirst : slice_get xs n ≡ Some x → n < length xs → Parted xs ys n x
    InSecond : (m : ℕ) → n ≡ length xs + m → slice_get ys m ≡ Some x → Parted xs ys n x

  pub part : (xs ys : List A) (n : ℕ) (x : A) → slice_get (xs ++ ys) n ≡ Some x → Parted xs ys n x
  part [] ys n x q = InSecond n (omega arith) q
  part (y ∷ xs) ys zero x q = InFirst q (omega arith)
  part (y ∷ xs) ys (suc n) x q = by (part xs ys n x q)
    where
      by : Parted xs ys n x → Parted (y ∷ xs) ys (suc n) x
      by (InFirst r less) = grind arith
      by (InSecond m is r) = InSecond m (omega arith) r

  -- what holds of all holds at each place
  pub all_at : (P : A → Type 0) (xs : List A) → AllByRecursion P xs → (n : ℕ) (x : A)
      → slice_get xs n ≡ Some x → P x
  all_at P [] all n x q = grind arith
  all_at P (y ∷ xs) all zero x q = grind arith
  all_at P (y ∷ xs) all (suc n) x q = all_at P xs all.1 n x q

-- ---- owed frames

pub frames_owing : (n : ℕ) (fs : List OutFrame) → frames_of (map (owing n) fs) ≡ fs
frames_owing n [] = refl
frames_owing n (f ∷ fs) = grind (arith, frames_owing n fs)

-- a frame that one entry owes
pub record IsOwed (n : ℕ) (fs : List OutFrame) (m : ℕ) (x : Owing) : Type 0 where
  pub source : x.source ≡ n
  pub frame : slice_get fs m ≡ Some x.frame

pub owed_here : (n : ℕ) (fs : List OutFrame) (m : ℕ) (x : Owing)
    → slice_get (map (owing n) fs) m ≡ Some x → IsOwed n fs m x
owed_here n [] m x q = grind arith
owed_here n (f ∷ fs) zero x q = grind arith
owed_here n (f ∷ fs) (suc m) x q = grind (arith, owed_here n fs m x q)

-- ---- moments

pub earlier_moment : (o : Opening) (e : Entry) (es : List Entry) (k : ℕ) → k ≤ entered es
    → moment k (past o (e ∷ es)) ≡ moment k (past o es)
earlier_moment = grind arith

pub this_moment : (o : Opening) (e : Entry) (es : List Entry) (k : ℕ) → k ≡ entered es + 1
    → moment k (past o (e ∷ es)) ≡ past o (e ∷ es)
this_moment = grind arith

-- ---- along a history

-- What holds of each frame where it is owed holds of each frame at the moment of its source.
module _ (o : Opening) (l : ℕ) (P : History → OutFrame → Type 0) where
  -- each frame of each entry
  abbrev pub AllOwed : List Entry → Type 0
  AllOwed [] = Unit {0}
  AllOwed (e ∷ es) =
      ((m : ℕ) (f : OutFrame) → slice_get (owed (past o es) l e.number e.event e.verdict) m ≡ Some f
      → P (past o (e ∷ es)) f) × AllOwed es

  -- it holds, and the source is an entry
  pub record HoldsThen (es : List Entry) (x : Owing) : Type 0 where
    pub some : 1 ≤ x.source
    pub within : x.source ≤ entered es
    pub holds : P (moment x.source (past o es)) x.frame

  pub holds_then : (es : List Entry) → IsPlayedIn o es → AllOwed es → (n : ℕ) (x : Owing)
      → slice_get (out_in o l es) n ≡ Some x → HoldsThen es x
  holds_then [] legal all n x q = grind arith
  holds_then (e ∷ es) legal all n x q = by (holds_then es legal.1 all.1 n x)
      (part (out_in o l es) (owes (past o es) l e) n x q)
    where
      by : (slice_get (out_in o l es) n ≡ Some x → HoldsThen es x)
          → Parted (out_in o l es) (owes (past o es) l e) n x → HoldsThen (e ∷ es) x
      by so_far (InFirst r less) = grind arith
      by so_far (InSecond m is r) =
          grind (
            arith,
            owed_here e.number (owed (past o es) l e.number e.event e.verdict) m x r,
            owed_number o es e legal.0 l m x.frame,
          )
