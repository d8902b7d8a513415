-- A message in the parts of its version, and what came where some of them did.
use Rattle.frame_laws.proofs
use proofs.Words.{ap, append-nil, append_assoc, AreInOrder, arith, before_last, Begun, begun_after}
use proofs.Words.{begun_by, Bool, completed_by, cond, drop, false, length, List, max_rows, Message}
use proofs.Words.{Message2, message_of, None, Option, Part, PartKind, parts, parts_complete}
use proofs.Words.{parts_from, parts_in_order, refl, Row, rows_before, rows_so_far, rules, slice_get}
use proofs.Words.{Some, suc, sym, take, take-append-drop, true, whole, zero, ℕ, [], ◌++◌, ◌+◌, ◌==◌}
use proofs.Words.{◌∙◌, ◌∷◌, ◌≡◌}

-- ---- lists of parts

pub completed_apart : (b : Option Begun) (xs ys : List Message2)
    → completed_by b (xs ++ ys) ≡ completed_by b xs ++ completed_by (begun_by b xs) ys
completed_apart b [] ys = refl
completed_apart b (x ∷ xs) ys =
    grind (arith, completed_apart (begun_after b x) xs ys)

pub begun_apart : (b : Option Begun) (xs ys : List Message2)
    → begun_by b (xs ++ ys) ≡ begun_by (begun_by b xs) ys
begun_apart b [] ys = refl
begun_apart b (x ∷ xs) ys = begun_apart (begun_after b x) xs ys

pub order_apart : (b : Option Begun) (xs ys : List Message2) → AreInOrder b xs
    → AreInOrder (begun_by b xs) ys → AreInOrder b (xs ++ ys)
order_apart b [] ys first later = later
order_apart b (x ∷ xs) ys first later =
    (first.0, order_apart (begun_after b x) xs ys first.1 later)

-- ---- a message in its parts

-- the parts of a message on a link of this version
abbrev pub pieces : ℕ → Message → List Message2
pieces v m = cond (v == 2) (parts m) (whole m ∷ [])

-- how many parts of a message with these rows stand before its last
abbrev pub cuts : ℕ → List Row → ℕ
cuts v rows = cond (v == 2) (before_last rows) 0

pub pieces_are : (v : ℕ) (kind : PartKind) (s : List ℕ) (rows : List Row)
    → pieces v (message_of kind s rows) ≡ parts_from kind s 1 (cuts v rows) rows
pieces_are = grind arith

pub pieces_complete : (v : ℕ) (m : Message) → completed_by None (pieces v m) ≡ m ∷ []
pieces_complete v m = grind (arith, append-nil (parts m), parts_complete)

pub pieces_in_order : (v : ℕ) (m : Message) → AreInOrder None (pieces v m)
pieces_in_order v m = by (v == 2) m
  where
    by : (b : Bool) (m : Message) → AreInOrder None (cond b (parts m) (whole m ∷ []))
    by true m = rw append-nil at (parts_in_order m [] tt)
    by false m = (grind arith, tt)

pub last_ends : (kind : PartKind) (s : List ℕ) (number more : ℕ) (rows : List Row) (b : Option
    Begun)
    → begun_by b (parts_from kind s number more rows) ≡ None
last_ends kind s number zero rows b = refl
last_ends kind s number (suc more) rows b = last_ends kind s (suc number) more (drop max_rows rows)
    _

pub pieces_end : (v : ℕ) (m : Message) → begun_by None (pieces v m) ≡ None
pieces_end = grind (arith, last_ends)

-- ---- one part of a message

-- part f is the one at place k of these, which are numbered behind n, and stand behind the rows
-- `before` of a message with these rows: the rows so far are a beginning of all, those before f
-- complete nothing, and the last stands at the end
pub record IsPiece (b : Option Begun) (kind : PartKind) (s : List ℕ) (before rows : List Row)
    (n : ℕ) (all : List Message2) (k : ℕ) (f : Message2) : Type 0 where
  pub number : ℕ
  pub numbered : number ≡ suc (n + k)
  pub last : Bool
  pub some : List Row
  pub first : List Row
  pub rest : List Row
  pub is : f ≡ Part kind s number last some
  pub so_far : rows_so_far (begun_by b (take k all)) kind s number some ≡ before ++ first
  pub whole_is : first ++ rest ≡ rows
  pub none : completed_by b (take k all) ≡ []
  pub ends : last ≡ true → suc k ≡ length all
  pub begins : last ≡ false → begun_by b (take (suc k) all)
      ≡ Some (record { kind = kind; scope = s; number = number; rows = before ++ first })

-- what is kept stands before the next part
kept_before : (kind : PartKind) (s : List ℕ) (n : ℕ) (before : List Row)
    → rows_before (Some (record { kind = kind; scope = s; number = suc n; rows = before })) kind s
    (suc (suc n)) ≡ before
kept_before = search rules

pub value_of : {A : Type 0} {x y : A} → Some x ≡ Some y → x ≡ y
value_of q = cc

-- what is kept behind the first of some parts
abbrev kept_first : Option Begun → PartKind → List ℕ → ℕ → List Row → Option Begun
kept_first b kind s n rows =
    begun_after b (Part kind s (suc n) false (take max_rows rows))

-- a part behind the first
piece_later : (kind : PartKind) (s : List ℕ) (n more : ℕ) (rows before : List Row)
    (b : Option Begun) (k : ℕ) (f : Message2)
    → IsPiece (kept_first b kind s n rows) kind s (before ++ take max_rows rows)
    (drop max_rows rows) (suc n) (parts_from kind s (suc (suc n)) more (drop max_rows rows)) k f
    → IsPiece b kind s before rows n (parts_from kind s (suc n) (suc more) rows) (suc k) f
piece_later kind s n more rows before b k f it = record {
  number = it.number;
  numbered = omega arith;
  last = it.last;
  some = it.some;
  first = take max_rows rows ++ it.first;
  rest = it.rest;
  is = it.is;
  so_far = grind (arith, append_assoc);
  whole_is = grind (arith, append_assoc, take-append-drop max_rows rows);
  none = it.none;
  ends = λ is. grind arith;
  begins = λ is. grind (arith, append_assoc);
}

pub piece_at : (kind : PartKind) (s : List ℕ) (n more : ℕ) (rows before : List Row)
    (b : Option Begun) → rows_before b kind s (suc n) ≡ before → (k : ℕ) (f : Message2)
    → slice_get (parts_from kind s (suc n) more rows) k ≡ Some f
    → IsPiece b kind s before rows n (parts_from kind s (suc n) more rows) k f
piece_at kind s n zero rows before b was zero f q = record {
  number = suc n;
  numbered = omega arith;
  last = true;
  some = rows;
  first = rows;
  rest = [];
  is = sym (value_of q);
  so_far = ap (λ xs. xs ++ rows) was;
  whole_is = append-nil rows;
  none = refl;
  ends = λ is. refl;
  begins = λ is. cc;
}
piece_at kind s n zero rows before b was (suc k) f q = cc
piece_at kind s n (suc more) rows before b was zero f q = record {
  number = suc n;
  numbered = omega arith;
  last = false;
  some = take max_rows rows;
  first = take max_rows rows;
  rest = drop max_rows rows;
  is = sym (value_of q);
  so_far = ap (λ xs. xs ++ take max_rows rows) was;
  whole_is = take-append-drop max_rows rows;
  none = refl;
  ends = λ is. cc;
  begins = λ is. grind arith;
}
piece_at kind s n (suc more) rows before b was (suc k) f q =
    piece_later kind s n more rows before b k f
    (piece_at kind s (suc n) more (drop max_rows rows) (before ++ take max_rows rows)
    (kept_first b kind s n rows)
    (kept_before kind s n (rows_before b kind s (suc n) ++ take max_rows rows)
    ∙ ap (λ xs. xs ++ take max_rows rows) was) k f q)
