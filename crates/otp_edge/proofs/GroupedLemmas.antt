-- Rows that are gathered by group, so far.
use Rattle.otp_edge.proofs
use Rattle.otp_edge.specs
use proofs.Words.{All, ap, append-nil, append_assoc, arith, cond, length, List, refl, Row, subst}
use proofs.Words.{sym, take, ℕ, [], ◌++◌, ◌+◌, ◌<◌, ◌∙◌, ◌∷◌, ◌≡◌, ◌≤◌}
use Rattle.std.specs.Prelude.{get_or}
use Rattle.std.proofs.lemmas.Grind.{flat_map-append}
use Rattle.std.proofs.lemmas.List.Elements.{All-more}
use Rattle.std.proofs.lemmas.List.Sums.{sum_by-append}
use Rattle.dist_types.specs.Listing.{same_row}
use Rattle.std.proofs.Common.{inl, inr}
use specs.Groups.{IsTermOf}
use specs.Grouped.{IsGrouped, IsInGroup, IsLeftOut, IsOneTooMany, IsRun, Keeps, left, MayBeTold}
use specs.Grouped.{none, told}
use specs.Sayings.{rows_of}
use specs.Tallies.{times}
use specs.declared.telling.Told.{Told}

-- some rows are gathered, and the rest isn't yet
pub record SoFar (atoms : List (List ℕ)) (rows rest : List Row) (ts : List Told) : Type 0 where
  pub before : List Row
  pub whole : before ++ rest ≡ rows
  pub grouped : IsGrouped atoms before ts

pub none_yet : (atoms : List (List ℕ)) (rows : List Row) → SoFar atoms rows rows []
none_yet atoms rows = record { before = []; whole = refl; grouped = none }

next : (before rest run behind rows : List Row) → before ++ rest ≡ rows → rest ≡ run ++ behind
    → (before ++ run) ++ behind ≡ rows
next before rest run behind rows whole cut =
    append_assoc before run behind ∙ ap (λ l. before ++ l) (sym cut) ∙ whole

full_still : (n m : List (List ℕ)) (group : List ℕ) → Keeps n m → IsOneTooMany n group
    → IsOneTooMany m group
full_still n m group more out =
    record { atom = out.atom; full = omega (arith, out.full, more.grows) }

left_still : (n m : List (List ℕ)) (group : List ℕ) → Keeps n m → IsLeftOut n group
    → IsLeftOut m group
left_still n m group more out = record {
  why = elim out.why [
    | inl no_term ↦ inl no_term
    | inr full ↦ inr (full_still n m group more full)
  ];
}

told_still : (n m : List (List ℕ)) (group : List ℕ) → Keeps n m → MayBeTold n group
    → MayBeTold m group
told_still n m group more (inl marked) = inl marked
told_still n m group more (inr kept) = inr (more.each group kept)

-- what was left out still is, with more atoms
grouped_still : (n m : List (List ℕ)) → Keeps n m → {rows : List Row} {ts : List Told}
    → IsGrouped n rows ts
    → IsGrouped m rows ts
grouped_still n m more none = none
grouped_still n m more (told before ts group t so run term may) =
    told before ts group t (grouped_still n m more so) run term (told_still n m group more may)
grouped_still n m more (left before ts group run so is out) =
    left before ts group run (grouped_still n m more so) is (left_still n m group more out)

pub told_more : (n m : List (List ℕ)) (rows rest behind : List Row) (ts : List Told)
    (group : List ℕ) (t : Told) → Keeps n m → SoFar n rows rest ts
    → rest ≡ t.rows.now ++ behind → IsRun group t.rows.now → IsTermOf t.group.items group
    → MayBeTold m group → SoFar m rows behind (ts ++ t ∷ [])
told_more n m rows rest behind ts group t more so cut run term may = record {
  before = so.before ++ t.rows.now;
  whole = next so.before rest t.rows.now behind rows so.whole cut;
  grouped = told so.before ts group t (grouped_still n m more so.grouped) run term may;
}

pub left_more : (n m : List (List ℕ)) (rows rest run behind : List Row) (ts : List Told)
    (group : List ℕ) → Keeps n m → SoFar n rows rest ts → rest ≡ run ++ behind
    → IsRun group run → IsLeftOut m group → SoFar m rows behind ts
left_more n m rows rest run behind ts group more so cut is out = record {
  before = so.before ++ run;
  whole = next so.before rest run behind rows so.whole cut;
  grouped = left so.before ts group run (grouped_still n m more so.grouped) is out;
}

pub all_grouped : (atoms : List (List ℕ)) (rows rest : List Row) (ts : List Told)
    → SoFar atoms rows rest ts
    → rest ≡ [] → IsGrouped atoms rows ts
all_grouped atoms rows rest ts so empty = subst (λ l. IsGrouped atoms l ts)
    (sym (append-nil so.before) ∙ ap (λ l. so.before ++ l) (sym empty) ∙ so.whole) so.grouped

pub in_group_more : (group : List ℕ) (rows : List Row) (i : ℕ) (row : Row) → i < length rows
    → row ≡ get_or rows i row → All (IsInGroup group) (take i rows) → IsInGroup group row
    → All (IsInGroup group) (take (i + 1) rows)
in_group_more group rows i row inside is so here =
    All-more (IsInGroup group) rows i row inside so (subst (IsInGroup group) is here)

one_more : (ts : List Told) (t : Told) → rows_of (ts ++ t ∷ []) ≡ rows_of ts ++ t.rows.now
one_more ts t = flat_map-append (λ (s : Told). s.rows.now) ts (t ∷ [])
    ∙ ap (λ l. rows_of ts ++ l) (append-nil t.rows.now)

-- no row is told more often than it is there
pub grouped_fewer : (n : List (List ℕ)) (r : Row) → {rows : List Row} {ts : List Told}
    → IsGrouped n rows ts
    → times r (rows_of ts) ≤ times r rows
grouped_fewer n r none = omega arith
grouped_fewer n r (told before ts group t so run term may) =
    let f = λ (s : Row). cond (same_row r s) 1 0 in
    let more = ap (times r) (one_more ts t) ∙ sum_by-append f (rows_of ts) t.rows.now in
    let all = sum_by-append f before t.rows.now in
    omega (arith, more, all, grouped_fewer n r so)
grouped_fewer n r (left before ts group run so is out) =
    let all = sum_by-append (λ (s : Row). cond (same_row r s) 1 0) before run in
    omega (arith, all, grouped_fewer n r so)
