-- One row more, or one less, in a map with two indexes; and what is counted there.
use Rattle.scope_core.proofs.Words
use Words.{AllByRecursion, and_parts, AreCounted, arith, bare_rows, Bool, CmpEqualImpliesEq, cond}
use Words.{counted_in, Decides, Decides-eqb, eq_by_cmp, exact_bytes, exact_pairs, exact_rows}
use Words.{exact_unsigned, false, has_row, is_row, is_some, IsDistinct-tail, IsEquivalence}
use Words.{IsTotalOrder, key_cmp, key_of, keys_of, List, lookup, lookup-none, lookup-remove_entry}
use Words.{nat_cmp_total, None, NonePasses, on_total, Option, Ordering, ProcessKey, refl}
use Words.{remove_entry, Row, row_at, row_cmp, rows_total, same, same_decides, same_from_decides}
use Words.{same_row, same_row_decides, set_value, stands, sym, tally, text_cmp, texts_total}
use Words.{then_total, tied_itself, true, unwrap_or, [], ℕ, ◌&&◌, ◌++◌, ◌+◌, ◌<◌, ◌==◌, ◌∙◌, ◌∷◌}
use Words.{◌≡◌}
use Rattle.std.specs.List.{IsDistinct}
use Rattle.std.proofs.lemmas.Map.Views.{tells_apart}
use Rattle.std.proofs.lemmas.Map.Entries.{none_past_head}

-- what compares equal is the same
one_by_order : {K : Type 0} {R : K → K → Ordering} {alike : K → K → Bool} → IsTotalOrder R
    → CmpEqualImpliesEq R → ((a b : K) → Decides (alike a b) (a ≡ b)) → (a b : K)
    → eq_by_cmp R a b ≡ alike a b
one_by_order {R = R} total exact decides a b =
    grind (arith, same_from_decides, tells_apart, tied_itself)

pub one_row : (row r : Row) → eq_by_cmp row_cmp row r ≡ same_row row r
one_row = one_by_order rows_total exact_rows same_row_decides

pub one_text : (a b : List ℕ) → eq_by_cmp text_cmp a b ≡ same a b
one_text = one_by_order texts_total exact_bytes same_decides

pub keys_total : IsTotalOrder key_cmp
keys_total =
    then_total (on_total (λ k. k.creation) nat_cmp_total) (on_total (λ k. k.number) nat_cmp_total)

exact_keys : CmpEqualImpliesEq key_cmp
exact_keys a b h = grind (arith, exact_pairs, exact_unsigned)

abbrev same_key : ProcessKey → ProcessKey → Bool
same_key a b = a.creation == b.creation && a.number == b.number

pub same_key_decides : (a b : ProcessKey) → Decides (same_key a b) (a ≡ b)
same_key_decides a b = grind (arith, and_parts, Decides-eqb)

pub one_key : (a b : ProcessKey) → eq_by_cmp key_cmp a b ≡ same_key a b
one_key = one_by_order keys_total exact_keys same_key_decides

-- a place in the index of groups is that of one row of the node
pub one_place : (node g : List ℕ) (k : ProcessKey) (row : Row) → row.pid.node ≡ node
    → (eq_by_cmp text_cmp row.group g && eq_by_cmp key_cmp (key_of row.pid) k)
    ≡ same_row row (row_at node g k)
one_place node g k row own = grind (arith, one_text, one_key, same_decides)

-- a value that is there or isn't, where one is written
pub some_cond : {A : Type 0} (b : Bool) (o w v : Option A) → v ≡ cond b o w
    → is_some v ≡ cond b (is_some o) (is_some w)
some_cond b o w v e = grind arith

-- ---- counts

pub rows_equal : IsEquivalence same_row
rows_equal = grind (arith, same_row_decides, same_from_decides)

pub stands_is : (r : Row) (es : List (Row × ℕ)) → stands r (counted_in es) ≡ has_row es r
stands_is r [] = refl
stands_is r (e ∷ es) = grind (arith, stands_is r es, rows_equal.symm r e.0)

tally_none : (row : Row) (es : List (Row × ℕ)) → NonePasses (same_row row) es
    → tally (is_row row.group row.pid) (counted_in es) ≡ 0
tally_none row [] none = refl
tally_none row (e ∷ es) none = grind (arith, tally_none row es none.1, rows_equal.symm row e.0)

-- where each row stands once, a row is counted as the map has it
pub count_is : (row : Row) (es : List (Row × ℕ)) → IsDistinct same_row (keys_of es)
    → tally (is_row row.group row.pid) (counted_in es) ≡ unwrap_or (lookup (same_row row) es) 0
count_is row [] d = refl
count_is row (e ∷ es) d =
    let rest = count_is row es (IsDistinct-tail _ _ _ d) in
    let none =
    λ (h : same_row row e.0 ≡ true). tally_none row es (none_past_head rows_equal row e es d h) in
    grind (arith, rows_equal.symm row e.0)

pub counted_more : (es : List (Row × ℕ)) (row : Row) (n : ℕ)
    → counted_in (es ++ (row, n) ∷ []) ≡ counted_in es ++ record { row = row; count = n } ∷ []
counted_more [] row n = refl
counted_more (e ∷ es) row n = grind (arith, counted_more es row n)

-- ---- the same rows are counted alike

abbrev pub Entries : Type 0
Entries = List (Row × ℕ)

abbrev pub Once : Entries → Type 0
Once es = IsDistinct same_row (keys_of es)

tally_removed : (test : Row → Bool) (row : Row) (es : Entries)
    → tally test (counted_in (remove_entry (same_row row) es))
    + cond (test row) (unwrap_or (lookup (same_row row) es) 0) 0 ≡ tally test (counted_in es)
tally_removed test row [] = grind arith
tally_removed test row (e ∷ es) = grind (arith, tally_removed test row es, same_row_decides)

pub removed_lookup : (row r : Row) (es : Entries) → Once es
    → lookup (same_row r) (remove_entry (same_row row) es)
    ≡ cond (same_row row r) None (lookup (same_row r) es)
removed_lookup row r es d =
    lookup-remove_entry rows_equal (same_row row) (rows_equal.congr row) r es d

removed_absent : (k row : Row) (es : Entries)
    → AllByRecursion (λ x. same_row k x ≡ false) (keys_of es)
    → AllByRecursion (λ x. same_row k x ≡ false) (keys_of (remove_entry (same_row row) es))
removed_absent k row [] a = tt
removed_absent k row (e ∷ es) a = grind (arith, removed_absent k row es a.1)

either_once : (b : Bool) (es fs : Entries) → Once es → Once fs → Once (cond b es fs)
either_once true es fs d f = d
either_once false es fs d f = f

removed_once : (row : Row) (es : Entries) → Once es → Once (remove_entry (same_row row) es)
unfolding IsDistinct
removed_once row [] d = tt
removed_once row (e ∷ es) d =
    either_once (same_row row e.0) es (e ∷ remove_entry (same_row row) es) d.1
    (removed_absent e.0 row es d.0, removed_once row es d.1)

pub same_tally : (es fs : Entries) → Once es → Once fs
    → ((r : Row) → lookup (same_row r) fs ≡ lookup (same_row r) es)
    → (test : Row → Bool) → tally test (counted_in fs) ≡ tally test (counted_in es)
same_tally [] [] d f same test = refl
same_tally [] (x ∷ fs) d f same test = grind (arith, same, rows_equal.refl x.0)
same_tally (e ∷ es) fs d f same test =
    let at = same e.0 in
    let rest = λ (r : Row).
    let gone = removed_lookup e.0 r fs f in
    let none = λ (h : same_row e.0 r ≡ true).
    lookup-none (same_row e.0) es (none_past_head rows_equal e.0 e es d (rows_equal.refl e.0)) in
    let is : lookup (same_row r) (remove_entry (same_row e.0) fs) ≡ lookup (same_row r) es =
    grind (arith, same, same_row_decides) in is in
    let less = same_tally es (remove_entry (same_row e.0) fs) (IsDistinct-tail _ _ _ d)
    (removed_once e.0 fs f) rest test in
    grind (arith, tally_removed, rows_equal.refl e.0)

-- where a row is taken out of the map, all others are counted as before
pub taken_tally : (row : Row) (es fs : Entries) → Once es → Once fs
    → ((r : Row) → lookup (same_row r) fs ≡ cond (same_row row r) None (lookup (same_row r) es))
    → (test : Row → Bool) → tally test (counted_in fs)
    + cond (test row) (tally (is_row row.group row.pid) (counted_in es)) 0
    ≡ tally test (counted_in es)
taken_tally row es fs d f gone test =
    let less = same_tally (remove_entry (same_row row) es) fs (removed_once row es d) f
    (λ r. gone r ∙ sym (removed_lookup row r es d)) test in
    grind (arith, tally_removed, count_is)

pub set_tally : (row : Row) (n : ℕ) (es : Entries) → is_some (lookup (same_row row) es) ≡ true
    → (test : Row → Bool) → tally test (counted_in (set_value (same_row row) es n))
    + cond (test row) (unwrap_or (lookup (same_row row) es) 0) 0
    ≡ tally test (counted_in es) + cond (test row) n 0
set_tally row n [] there test = grind arith
set_tally row n (e ∷ es) there test =
    let rest = λ (h : same_row row e.0 ≡ false). set_tally row n es (grind arith) test in
    grind (arith, same_row_decides)

pub set_bare : (row : Row) (n : ℕ) (es : Entries)
    → bare_rows (counted_in (set_value (same_row row) es n)) ≡ bare_rows (counted_in es)
set_bare row n [] = refl
set_bare row n (e ∷ es) = grind (arith, set_bare row n es)

-- ---- what is true of each row of the map

pub own_at : (node : List ℕ) (r : Row) (es : Entries) → AllByRecursion (λ e. e.0.pid.node ≡ node) es
    → has_row es r ≡ true → r.pid.node ≡ node
own_at node r [] a h = grind arith
own_at node r (e ∷ es) a h = grind (arith, own_at node r es a.1, same_row_decides)

pub own_from : (node : List ℕ) (es : Entries)
    → ((r : Row) → has_row es r ≡ true → r.pid.node ≡ node)
    → AllByRecursion (λ e. e.0.pid.node ≡ node) es
own_from node [] h = tt
own_from node (e ∷ es) h = (
  h e.0 (grind (arith, rows_equal.refl e.0)),
  own_from node es (λ r there. h r (grind arith)),
)

counted_at : (r : Row) (es : Entries) → AreCounted (counted_in es) → has_row es r ≡ true
    → 0 < unwrap_or (lookup (same_row r) es) 0
counted_at r [] a h = grind arith
counted_at r (e ∷ es) a h = grind (arith, counted_at r es a.1)

pub counted_from : (es : Entries) → Once es
    → ((r : Row) → has_row es r ≡ true → 0 < unwrap_or (lookup (same_row r) es) 0)
    → AreCounted (counted_in es)
counted_from [] d h = tt
counted_from (e ∷ es) d h =
    let rest = λ (r : Row) (there : has_row es r ≡ true).
    let none = λ (same : same_row r e.0 ≡ true).
    lookup-none (same_row r) es (none_past_head rows_equal r e es d same) in
    let some = h r (grind arith) in
    let is : 0 < unwrap_or (lookup (same_row r) es) 0 = grind arith in is in (
      grind (arith, h e.0 (grind (arith, rows_equal.refl e.0)), rows_equal.refl e.0),
      counted_from es (IsDistinct-tail _ _ _ d) rest,
    )

-- where a row is taken out, the others stay counted
pub taken_counted : (row : Row) (es fs : Entries) → Once fs
    → ((r : Row) → lookup (same_row r) fs ≡ cond (same_row row r) None (lookup (same_row r) es))
    → AreCounted (counted_in es) → AreCounted (counted_in fs)
taken_counted row es fs f gone a = grind (arith, counted_from, counted_at)
