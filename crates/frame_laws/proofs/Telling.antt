-- What an entry says of a scope to a link: one of three things.
use Rattle.frame_laws.proofs
use proofs.Words.{ap, AreThere, arith, Bool, Entry, false, how_many_append, IsFew, length}
use proofs.Words.{length-append, limit, List, Message, message_of, Opening, Option, OutFrame, owed}
use proofs.Words.{own, PartKind, past, Pid, Row, rows_of, said_frames, same_decides, seen, Some}
use proofs.Words.{told, true, ℕ, [], ◌++◌, ◌+◌, ◌-◌, ◌∙◌, ◌∷◌, ◌≡◌, ◌≤◌}
use proofs.Calm.{AllCalm, HasNoRows}
use proofs.Sayable.{IsSayable}

-- what a view may be before an entry: the own rows, while the peer is told
abbrev pub WasSeen : Bool → (List ℕ → Pid → ℕ) → (List ℕ → Pid → Option ℕ) → Type 0
WasSeen told_before was x = told_before ≡ true → (g : List ℕ) (p : Pid) → x g p ≡ Some (was g p)

-- the rows of a message of s are those that are new, or all; so far they are no more than may be;
-- and those of a Leave were there
pub record IsTold (v : ℕ) (s : List ℕ) (told_before : Bool) (was now : List ℕ → Pid → ℕ)
    (kind : PartKind) (rows : List Row) : Type 0 where
  pub says : (x : List ℕ → Pid → Option ℕ) → WasSeen told_before was x → (g : List ℕ) (p : Pid)
      → seen s g p (message_of kind s rows) (x g p) ≡ Some (now g p)
  pub few : (x : List ℕ → Pid → Option ℕ) → WasSeen told_before was x → (first rest : List Row)
      → first ++ rest ≡ rows → IsFew v s x kind first
  pub there : (x : List ℕ → Pid → Option ℕ) → WasSeen told_before was x → kind ≡ PartKind.Leave
      → AreThere x rows

-- whether the peer was told before and is told now, the own rows before and now, and the frames
-- that are owed
pub data Tells (v : ℕ) (s : List ℕ) (told_before told_now : Bool) (was now : List ℕ → Pid → ℕ)
    (fs : List OutFrame) : Type 0 where
  -- nothing of s; the peer isn't told anew, and while it is told the rows stay
  Silent : AllCalm v s fs
      → (told_now ≡ true → (told_before ≡ true) × ((g : List ℕ) (p : Pid) → now g p ≡ was g p))
      → Tells v s told_before told_now was now fs
  -- a message with rows
  Spoke : (before : List OutFrame) (kind : PartKind) (rows : List Row) (after : List OutFrame)
      → fs ≡ before ++ (said_frames v (message_of kind s rows) ++ after) → AllCalm v s before
      → AllCalm v s after → IsSayable v (message_of kind s rows)
      → IsTold v s told_before was now kind rows → Tells v s told_before told_now was now fs
  -- no rows, and the peer isn't told any more
  Ended : HasNoRows v s fs → told_now ≡ false → Tells v s told_before told_now was now fs

-- ---- each kind

pub rows_both : (g : List ℕ) (p : Pid) (xs ys : List Row)
    → rows_of g p (xs ++ ys) ≡ rows_of g p xs + rows_of g p ys
rows_both = grind (arith, how_many_append)

module _ (g : List ℕ) (p : Pid) (first rest rows : List Row) (is : first ++ rest ≡ rows) where
  pub fewer_of : rows_of g p first ≤ rows_of g p rows
  fewer_of = grind (arith, rows_both)

shorter : (first rest rows : List Row) → first ++ rest ≡ rows → length first ≤ length rows
shorter = grind (arith, length-append)

synced : (s g : List ℕ) (p : Pid) (rows : List Row) (x : Option ℕ)
    → seen s g p (Message.Sync s rows) x ≡ Some (rows_of g p rows)
synced = grind (arith, same_decides)

added : (s g : List ℕ) (p : Pid) (rows : List Row) (n : ℕ)
    → seen s g p (Message.Join s rows) (Some n) ≡ Some (n + rows_of g p rows)
added = grind (arith, same_decides)

taken_off : (s g : List ℕ) (p : Pid) (rows : List Row) (n : ℕ)
    → seen s g p (Message.Leave s rows) (Some n) ≡ Some (n - rows_of g p rows)
taken_off s = grind (arith, same_decides s s)

module _ {v : ℕ} {s : List ℕ} {told_before : Bool} {was now : List ℕ → Pid → ℕ}
    {rows : List Row} where
  pub told_sync : length rows ≤ limit v → ((g : List ℕ) (p : Pid) → rows_of g p rows ≡ now g p)
      → IsTold v s told_before was now PartKind.Sync rows
  told_sync few all = record {
    says = λ x before g p. grind (arith, synced);
    few = λ x before first rest is. grind (arith, synced, shorter first rest rows is);
    there = λ x before is. cc;
  }

  module _ (tells : told_before ≡ true) (base : List Row)
      (within : (g : List ℕ) (p : Pid) → was g p ≤ rows_of g p base) where
    pub told_join : length base + length rows ≤ limit v
        → ((g : List ℕ) (p : Pid) → now g p ≡ was g p + rows_of g p rows)
        → IsTold v s told_before was now PartKind.Join rows
    told_join few all = record {
      says = λ x before g p. grind (arith, added);
      few = λ x before first rest is. (
        base ++ first,
        (λ g p. (
          was g p + rows_of g p first,
          ap (seen s g p (Message.Join s first)) (before tells g p)
              ∙ added s g p first (was g p),
          (omega (arith, rows_both g p base first)),
        )),
        (omega (arith, shorter first rest rows is, length-append base first)),
      );
      there = λ x before is. cc;
    }

    pub told_leave : length base ≤ limit v
        → ((g : List ℕ) (p : Pid) → rows_of g p rows ≤ was g p)
        → ((g : List ℕ) (p : Pid) → now g p ≡ was g p - rows_of g p rows)
        → IsTold v s told_before was now PartKind.Leave rows
    told_leave few less all = record {
      says = λ x before g p. grind (arith, taken_off);
      few = λ x before first rest is. (
        base,
        (λ g p. (
          was g p - rows_of g p first,
          ap (seen s g p (Message.Leave s first)) (before tells g p)
              ∙ taken_off s g p first (was g p),
          (omega arith),
        )),
        few,
      );
      there = λ x before is g p. (was g p, before tells g p, less g p);
    }

-- ---- along a history

-- entry e, after these entries, to link l
abbrev pub EntryTells : ℕ → Opening → ℕ → List ℕ → Entry → List Entry → Type 0
EntryTells v o l s e es = Tells v s (told o l s es) (told o l s (e ∷ es)) (own (past o es) s)
    (own (past o (e ∷ es)) s) (owed (past o es) l e.number e.event e.verdict)

-- each entry does so
abbrev pub AllTell : ℕ → Opening → ℕ → List ℕ → List Entry → Type 0
AllTell v o l s [] = Unit {0}
AllTell v o l s (e ∷ es) = EntryTells v o l s e es × AllTell v o l s es
