-- Rows in order as the entries of a map, and the map with its indexes.
use Rattle.scope_core.proofs
use proofs.Words
use Words.{AllByRecursion, ap, append_assoc, arith, BTreeMap, Counted, counted_cmp, counted_in}
use Words.{entries_in, false, find_in, IsHashed, key_cmp, keys_of, Less, List, lookup}
use Words.{Names, None, Option, ProcessKey, refl, Rises, Row, row_at, rows_total, same_row}
use Words.{same_row_decides}
use Words.{SmallMap, stands, subst, sym, text_cmp, tied_itself, [], ℕ, ◌++◌, ◌∙◌, ◌∷◌, ◌≡◌}
use proofs.HashedRows.{rows_equal, stands_is}
use proofs.HashedWrites.{names_as}
use proofs.Rising.{all_mapped}
use Rattle.std.specs.List.{IsDistinct}

abbrev Entries : Type 0
Entries = List (Row × ℕ)

pub back_again : (rows : List Counted) → counted_in (entries_in rows) ≡ rows
back_again [] = refl
back_again (c ∷ cs) = grind (arith, back_again cs)

apart : (c : Counted) (cs : List Counted) → AllByRecursion (λ d. counted_cmp c d ≡ Less) cs
    → AllByRecursion (λ r. same_row c.row r ≡ false) (keys_of (entries_in cs))
apart c [] l = tt
apart c (d ∷ cs) l = grind (arith, apart c cs l.1, same_row_decides, tied_itself rows_total c.row)

pub rising_once : (rows : List Counted) → Rises counted_cmp rows
    → IsDistinct same_row (keys_of (entries_in rows))
unfolding IsDistinct
rising_once [] r = tt
rising_once (c ∷ cs) r = (apart c cs r.0, rising_once cs r.1)

-- ---- one row after another

at_middle : (r row : Row) (n : ℕ) (es fs : Entries)
    → AllByRecursion (λ x. same_row r x ≡ false) (keys_of (es ++ (row, n) ∷ fs))
    → same_row r row ≡ false
at_middle r row n [] fs a = a.0
at_middle r row n (e ∷ es) fs a = at_middle r row n es fs a.1

-- a row that stands once isn't among those before it
once_before : (row : Row) (n : ℕ) (es fs : Entries)
    → IsDistinct same_row (keys_of (es ++ (row, n) ∷ fs)) → lookup (same_row row) es ≡ None
unfolding IsDistinct
once_before row n [] fs d = refl
once_before row n (e ∷ es) fs d = grind (arith, once_before row n es fs d.1, at_middle, rows_equal)

-- the entries of the rows so far are es, and c is the next row
module _ (rows rest more : List Counted) (c : Counted) (es : Entries)
    (all : es ++ entries_in rest ≡ entries_in rows) (next : rest ≡ c ∷ more) where
  pub next_fresh : Rises counted_cmp rows → lookup (same_row c.row) es ≡ None
  next_fresh rises = grind (arith, rising_once, once_before)

  pub next_in : (fs : Entries) → fs ≡ es ++ (c.row, c.count) ∷ []
      → fs ++ entries_in more ≡ entries_in rows
  next_in fs is = grind (arith, append_assoc)

-- ---- the map and its indexes

pub hashed_of : (node : List ℕ) (rows : List Counted) (es : Entries)
    (groups : BTreeMap (List ℕ) (SmallMap ProcessKey ℕ))
    (processes : Option (BTreeMap ProcessKey (SmallMap (List ℕ) (Unit {0}))))
    → AllByRecursion (λ c. c.row.pid.node ≡ node) rows → Rises counted_cmp rows
    → es ≡ entries_in rows → ((g : List ℕ) (k : ProcessKey) → find_in text_cmp key_cmp groups g k
    ≡ lookup (same_row (row_at node g k)) (entries_in rows))
    → Names (λ k g. stands (row_at node g k) rows) processes → IsHashed node es groups processes
hashed_of node rows es groups processes own rises made by_group by_process =
    let there = λ (r : Row).
    ap (stands r) (sym (back_again rows)) ∙ stands_is r (entries_in rows) in
    subst (λ xs. IsHashed node xs groups processes) (sym made) (record {
      once = rising_once rows rises;
      own = all_mapped _ _ rows own;
      by_group = by_group;
      by_process = names_as processes _ _ (λ k g. there (row_at node g k)) by_process;
    })
