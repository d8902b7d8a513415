-- What a tally counts after a row is put in or taken out.
use Rattle.otp_edge.proofs
use proofs.Words.{ap, arith, Bool, cond, false, length, List, None, Option, refl, Row, Some, suc}
use proofs.Words.{sym, true, zero, ℕ, [], ◌+◌, ◌<◌, ◌∙◌, ◌∷◌, ◌≡◌, ◌≤◌}
use Rattle.std.specs.declared.cmp.Ordering.{Ordering}
use Rattle.std.specs.declared.cmp.Ordering.TheVariants.{Equal}
use Rattle.std.specs.Option.{unwrap_or}
use Rattle.std.specs.Ordering.{is_eq}
use Rattle.std.proofs.lemmas.Bool.Decides.{same_from_decides}
use Rattle.std.proofs.lemmas.Cmp.{tied_itself}
use Rattle.dist_types.specs.Order.{row_cmp}
use Rattle.dist_types.specs.Listing.{same_row}
use Rattle.dist_types.proofs.Orders.{exact_rows, rows_total, same_row_decides}
use Rattle.otp_edge.specs.Tallies.{count_at, counted, HasSome, once}
use proofs.TallyLemmas.{same_rows}

equal_from : (o : Ordering) → is_eq o ≡ true → o ≡ Equal
equal_from o e = grind arith

-- the order finds a row where it is the same
found_same : (row r : Row) → is_eq (row_cmp row r) ≡ same_row r row
found_same row r = same_from_decides (is_eq (row_cmp row r)) (same_row r row) (
  (λ e. sym (exact_rows row r (equal_from (row_cmp row r) e))),
  (λ e. ap (λ s. is_eq (row_cmp row s)) e ∙ ap is_eq (tied_itself rows_total row)),
) (same_row_decides r row)

-- what a tally has where a row was set, and where it wasn't
abbrev pub IsSetAt : List (Row × ℕ) → List (Row × ℕ) → Row → Option ℕ → Type 0
IsSetAt before after row to = (q : Row) → count_at q after
    ≡ cond (is_eq (row_cmp row q)) to (count_at q before)

set_there : (before after : List (Row × ℕ)) (row : Row) (to : Option ℕ)
    → IsSetAt before after row to → (r : Row)
    → count_at r after ≡ cond (same_row r row) to (count_at r before)
set_there before after row to at r =
    at r ∙ ap (λ t. cond t to (count_at r before)) (found_same row r)

cond_over : (here : Bool) (to was other : Option ℕ)
    → cond here to (cond here was other) ≡ cond here to other
cond_over true to was other = refl
cond_over false to was other = refl

-- what is set twice is what was set last
pub set_again : (before between after : List (Row × ℕ)) (row : Row) (was to : Option ℕ)
    → IsSetAt before between row was → IsSetAt between after row to → IsSetAt before after row to
set_again before between after row was to first then q =
    then q ∙ ap (cond (is_eq (row_cmp row q)) to) (first q)
    ∙ cond_over (is_eq (row_cmp row q)) to was (count_at q before)

-- ---- one row more

more_at : (here : Bool) (before : Option ℕ) (n : ℕ) → (here ≡ true → n ≡ unwrap_or before 0 + 1)
    → unwrap_or (cond here (Some n) before) 0 ≡ unwrap_or before 0 + cond here 1 0
more_at true before n is = is refl
more_at false before n is = omega arith

pub put_once : (before after : List (Row × ℕ)) (row : Row) (n : ℕ) → n ≡ counted row before + 1
    → IsSetAt before after row (Some n)
    → (r : Row) → counted r after ≡ counted r before + once r row
put_once before after row n is at r =
    ap (λ o. unwrap_or o 0) (set_there before after row (Some n) at r)
    ∙ more_at (same_row r row) (count_at r before) n
    (λ e. is ∙ ap (λ s. counted s before + 1) (sym (same_rows r row e)))

some_at : (here : Bool) (before : Option ℕ) (n : ℕ) → 0 < n → (before ≡ Some 0 → ⊥)
    → cond here (Some n) before ≡ Some 0 → ⊥
some_at true before n more some is = omega (arith, ap (λ o. unwrap_or o 0) is, more)
some_at false before n more some is = some is

pub put_some : (before after : List (Row × ℕ)) (row : Row) (n : ℕ) → 0 < n
    → IsSetAt before after row (Some n) → HasSome before → HasSome after
put_some before after row n more at some r is =
    some_at (same_row r row) (count_at r before) n more (some r)
    (sym (set_there before after row (Some n) at r) ∙ is)

-- ---- one row less

less_at : (here : Bool) (before to : Option ℕ)
    → (here ≡ true → unwrap_or to 0 + 1 ≡ unwrap_or before 0)
    → unwrap_or (cond here to before) 0 + cond here 1 0 ≡ unwrap_or before 0
less_at true before to is = is refl
less_at false before to is = omega arith

pub taken_once : (before after : List (Row × ℕ)) (row : Row) (to : Option ℕ)
    → unwrap_or to 0 + 1 ≡ counted row before → IsSetAt before after row to
    → (r : Row) → counted r after + once r row ≡ counted r before
taken_once before after row to is at r =
    ap (λ o. unwrap_or o 0 + once r row) (set_there before after row to at r)
    ∙ less_at (same_row r row) (count_at r before) to
    (λ e. is ∙ ap (λ s. counted s before) (sym (same_rows r row e)))

none_at : (here : Bool) (before : Option ℕ) → (before ≡ Some 0 → ⊥)
    → cond here None before ≡ Some 0 → ⊥
none_at true before some is = grind (arith, is)
none_at false before some is = some is

pub removed_some : (before after : List (Row × ℕ)) (row : Row) → IsSetAt before after row None
    → HasSome before → HasSome after
removed_some before after row at some r is =
    none_at (same_row r row) (count_at r before) (some r)
    (sym (set_there before after row None at r) ∙ is)

-- the last one of its row
pub last_one : (entries : List (Row × ℕ)) (row : Row) (n : ℕ) → Some n ≡ count_at row entries
    → HasSome entries → n ≤ 1 → 0 + 1 ≡ counted row entries
last_one entries row zero at some few = absurd (some row (sym at))
last_one entries row (suc n) at some few = omega (arith, ap (λ o. unwrap_or o 0) at, few)

above_none : (n m : ℕ) → n ≡ m → (m ≡ 0 → ⊥) → 0 < n
above_none n zero is some = absurd (some refl)
above_none n (suc m) is some = omega (arith, is)

-- where there are entries, there is a row
pub some_row : (entries : List (Row × ℕ)) → HasSome entries → (length entries ≡ 0 → ⊥)
    → (r : Row) × (0 < counted r entries)
some_row [] some full = absurd (full refl)
some_row (e ∷ entries) some full =
    let first : count_at e.0 (e ∷ entries) ≡ Some e.1 =
    ap (λ o. cond (is_eq o) (Some e.1) (count_at e.0 entries)) (tied_itself rows_total e.0) in (
      e.0,
      above_none (counted e.0 (e ∷ entries)) e.1 (ap (λ o. unwrap_or o 0) first)
          (λ none. some e.0 (first ∙ ap Some none)),
    )
