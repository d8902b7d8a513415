-- What a write does to the index of groups, and to the map alone.
use Rattle.scope_core.proofs
use proofs.Words
use Words.{ap, append-nil, AreCounted, arith, bare_rows, Bool, BTreeMap, cond, Counted, counted_in}
use Words.{drop, eq_by_cmp, false, find_in, get_or, has_groups, has_members, has_row, is_row}
use Words.{is_some, is_there, IsHashed, key_cmp, key_of, length, length-append, List, list_any}
use Words.{Names}
use Words.{lookup, map-append, None, not, Option, or_right, Pid, ProcessKey, refl, Row, row_at}
use Words.{row_in, same_decides, same_pid, same_pid_decides, same_row, same_row_decides, set_value}
use Words.{SmallMap, Some, stands, suc, sym, take, take-append-drop, take-append-le, take_all}
use Words.{take_more, tally, text_cmp, true, unwrap_or, zero, [], ℕ, ◌&&◌, ◌++◌, ◌+◌, ◌-◌, ◌<◌}
use Words.{◌||◌, ◌∙◌, ◌∷◌, ◌≡◌}
use proofs.HashedRows.{count_is, counted_from, Entries, Once, one_key, one_place, one_text, own_at}
use proofs.HashedRows.{own_from, rows_equal, same_key_decides, some_cond, stands_is}

-- ---- the index of groups

both : (a b : Bool) → (a && b) ≡ (b && a)
both true b = by b
  where
    by : (x : Bool) → x ≡ (x && true)
    by true = refl
    by false = refl
both false true = refl
both false false = refl

-- what was put in at two keys and taken out again is as it was, where nothing was there
pub put_back : (group g : List ℕ) (key k : ProcessKey) (old : List ℕ → ProcessKey → Option ℕ)
    (n : ℕ) (then now : Option ℕ) → old group key ≡ None
    → then ≡ cond (eq_by_cmp text_cmp group g && eq_by_cmp key_cmp key k) (Some n) (old g k)
    → now ≡ cond (eq_by_cmp text_cmp group g && eq_by_cmp key_cmp key k) None then → now ≡ old g k
put_back group g key k old n then now none put took =
    grind (arith, one_text, one_key, same_decides, same_key_decides)

module _ (node g : List ℕ) (k : ProcessKey) (row : Row) (own : row.pid.node ≡ node) where
  abbrev here : Row
  here = row_at node g k

  -- a row that is there stands at its place
  pub named_still : (es : Entries) (was : Bool) → was ≡ has_row es here → has_row es row ≡ true
      → was ≡ cond (eq_by_cmp key_cmp (key_of row.pid) k && eq_by_cmp text_cmp row.group g) true was
  named_still es was w there = grind (arith, one_place, same_row_decides row here)

  -- so does one that gets a count, or is taken out
  pub named_after : (o : Option ℕ) (was : Bool) (es fs : Entries) → was ≡ has_row es here
      → lookup (same_row here) fs ≡ cond (same_row row here) o (lookup (same_row here) es)
      → cond (eq_by_cmp key_cmp (key_of row.pid) k && eq_by_cmp text_cmp row.group g) (is_some o)
      was ≡ has_row fs here
  named_after o was es fs w is = grind (arith, both, one_place, some_cond)

-- a row of the node, found again by its key
pub at_row : (node : List ℕ) (row : Row) → row.pid.node ≡ node
    → row_at node row.group (key_of row.pid) ≡ row
at_row node row own = grind arith

-- a row of the process, found by its key
pub row_of : (node g : List ℕ) (p : Pid) (k : ProcessKey) (es : Entries) → p.node ≡ node
    → k ≡ key_of p → has_row es (row_at node g k) ≡ has_row es (row_in g p)
row_of node g p k es own key = grind (arith, at_row)

-- where no group has a row of the process, none is counted
pub none_of : (p : Pid) (es : Entries) → ((g : List ℕ) → has_row es (row_in g p) ≡ false)
    → tally (λ r. same_pid r.pid p) (counted_in es) ≡ 0
none_of p [] h = refl
none_of p (e ∷ es) h =
    let rest = none_of p es (λ g. grind (arith, h g)) in
    let mine = h e.0.group in
    grind (arith, same_row_decides, same_pid_decides)

-- where no key is found under the group, the node has none of its rows
pub none_there : (g node : List ℕ) (es : Entries)
    → ((k : ProcessKey) → lookup (same_row (row_at node g k)) es ≡ None)
    → tally (is_there g node) (counted_in es) ≡ 0
none_there g node [] h = refl
none_there g node (e ∷ es) h =
    let rest = none_there g node es (λ k. grind (arith, h k)) in
    let mine = h (key_of e.0.pid) in
    grind (arith, same_decides, same_row_decides)

-- a row that is found is counted among those of its group
pub some_there : (g node : List ℕ) (k : ProcessKey) (es : Entries) → AreCounted (counted_in es)
    → is_some (lookup (same_row (row_at node g k)) es) ≡ true
    → 0 < tally (is_there g node) (counted_in es)
some_there g node k [] a h = grind arith
some_there g node k (e ∷ es) a h =
    grind (arith, some_there g node k es a.1, same_row_decides, same_decides)

-- whether the node has none of the group's rows, as the index of groups tells it
pub none_left : (node g : List ℕ) (es : Entries)
    (groups : BTreeMap (List ℕ) (SmallMap ProcessKey ℕ)) (b : Bool) → ((h : List ℕ) (k : ProcessKey)
    → find_in text_cmp key_cmp groups h k ≡ lookup (same_row (row_at node h k)) es)
    → AreCounted (counted_in es)
    → (b ≡ true → (k : ProcessKey) → find_in text_cmp key_cmp groups g k ≡ None) → (b ≡ false
    → (k : ProcessKey) × (is_some (find_in text_cmp key_cmp groups g k) ≡ true))
    → b ≡ not (has_members g node (counted_in es))
none_left node g es groups true is a none some =
    let zero = none_there g node es (λ k. sym (is g k) ∙ none refl k) in grind (arith, zero)
none_left node g es groups false is a none some =
    let one = some refl in
    grind (arith, some_there)

-- a row of the process is counted, where it is in a group
some_of_it : (g : List ℕ) (p : Pid) (es : Entries) → AreCounted (counted_in es)
    → has_row es (row_in g p) ≡ true → 0 < tally (λ r. same_pid r.pid p) (counted_in es)
some_of_it g p [] a h = grind arith
some_of_it g p (e ∷ es) a h =
    grind (arith, some_of_it g p es a.1, same_row_decides, same_pid_decides)

-- whether the process is in no group, as the index of processes tells it
pub no_other : (p : Pid) (es : Entries) (b : Bool) → AreCounted (counted_in es)
    → (b ≡ true → (g : List ℕ) → has_row es (row_in g p) ≡ false)
    → (b ≡ false → (g : List ℕ) × (has_row es (row_in g p) ≡ true))
    → b ≡ not (has_groups p (counted_in es))
no_other p es true a none some = grind (arith, none_of)
no_other p es false a none some = grind (arith, some_of_it)

-- who is counted in a group is counted among those of its node
pub row_there : (g node : List ℕ) (p : Pid) (rows : List Counted) → p.node ≡ node
    → 0 < tally (is_row g p) rows → 0 < tally (is_there g node) rows
row_there g node p [] own l = grind arith
row_there g node p (c ∷ cs) own l =
    grind (arith, row_there g node p cs own, same_pid_decides, same_decides)

pub taken_back : {A : Type 0} (xs : List A) (x : A)
    → take (length (xs ++ x ∷ []) - 1) (xs ++ x ∷ []) ≡ xs
taken_back xs x = grind (arith, length-append, take-append-le, take_all)

pub last_there : (es : Entries) (row : Row) (n : ℕ) → has_row (es ++ (row, n) ∷ []) row ≡ true
last_there [] row n = grind (arith, rows_equal.refl row)
last_there (e ∷ es) row n = grind (arith, last_there es row n)

-- ---- the map and its indexes, where one row is written

abbrev ByGroup : Type 0
ByGroup = BTreeMap (List ℕ) (SmallMap ProcessKey ℕ)

abbrev ByProcess : Type 0
ByProcess = Option (BTreeMap ProcessKey (SmallMap (List ℕ) (Unit {0})))

-- the same, said in other words
pub names_as : (ps : ByProcess) (says also : ProcessKey → List ℕ → Bool)
    → ((k : ProcessKey) (g : List ℕ) → says k g ≡ also k g) → Names says ps → Names also ps
names_as None says also is names = tt
names_as (Some m) says also is names = λ k g. names k g ∙ is k g

-- a row gets a count, or is taken out
pub hashed_write : {node : List ℕ} {es : Entries} {groups : ByGroup} {processes : ByProcess}
    → IsHashed node es groups processes → (row : Row) → row.pid.node ≡ node
    → (o : Option ℕ) (fs : Entries) (gs : ByGroup) (ps : ByProcess) → Once fs
    → ((r : Row) → lookup (same_row r) fs ≡ cond (same_row row r) o (lookup (same_row r) es))
    → ((g : List ℕ) (k : ProcessKey) → find_in text_cmp key_cmp gs g k
    ≡ cond (eq_by_cmp text_cmp row.group g && eq_by_cmp key_cmp (key_of row.pid) k) o
    (find_in text_cmp key_cmp groups g k))
    → Names (λ k g. cond (eq_by_cmp key_cmp (key_of row.pid) k && eq_by_cmp text_cmp row.group g)
    (is_some o) (has_row es (row_at node g k))) ps → IsHashed node fs gs ps
hashed_write {node = node} {es = es} was row own o fs gs ps once is group process = record {
  once = once;
  own = own_from node fs (λ r h. grind (arith, is r, own_at, same_row_decides));
  by_group = λ g k. group g k
      ∙ (λ i. cond (one_place node g k row own i) o (was.by_group g k i)) ∙ sym (is _);
  by_process = names_as ps _ _
      (λ k g. named_after node g k row own o _ es fs refl (is (row_at node g k))) process;
}

-- ---- rows that are put in with no count

pub stands_append : (r : Row) (xs ys : List Counted)
    → stands r (xs ++ ys) ≡ (stands r xs || stands r ys)
stands_append r [] ys = refl
stands_append r (x ∷ xs) ys = grind (arith, stands_append r xs ys)

pub stands_drop : (r : Row) (n : ℕ) (xs : List Counted) → stands r (drop n xs) ≡ true
    → stands r xs ≡ true
stands_drop r n xs h =
    ap (stands r) (sym (take-append-drop n xs)) ∙ stands_append r (take n xs) (drop n xs)
    ∙ or_right _ _ h

-- a row that is put in where it isn't there yet, as the map and as the rows have it
pub counted_more : (row : Row) (n : ℕ) (es : Entries) (fresh : Bool) → fresh ≡ not (has_row es row)
    → counted_in (es ++ cond fresh ((row, n) ∷ []) [])
    ≡ counted_in es ++ cond (stands row (counted_in es)) [] (record { row = row; count = n } ∷ [])
counted_more row n es true h = grind (arith, stands_is, map-append)
counted_more row n es false h = grind (arith, stands_is, append-nil)

pub grown_stands : (row r : Row) (old : List Counted)
    → stands r (old ++ cond (stands row old) [] (record { row = row; count = 0 } ∷ []))
    ≡ (stands r old || same_row row r)
grown_stands row r old = grind (arith, stands_append, same_row_decides)

pub grown_tally : (row : Row) (test : Row → Bool) (old : List Counted)
    → tally test (old ++ cond (stands row old) [] (record { row = row; count = 0 } ∷ []))
    ≡ tally test old
grown_tally row test [] = grind arith
grown_tally row test (c ∷ cs) = by (stands row (c ∷ cs))
  where
    zero_last : (xs : List Counted)
        → tally test (xs ++ record { row = row; count = 0 } ∷ []) ≡ tally test xs
    zero_last [] = grind arith
    zero_last (x ∷ xs) = grind (arith, zero_last xs)

    by : (b : Bool) → tally test ((c ∷ cs) ++ cond b [] (record { row = row; count = 0 } ∷ []))
        ≡ tally test (c ∷ cs)
    by true = grind (arith, append-nil)
    by false = zero_last (c ∷ cs)

pub stands_more : (r : Row) (more : List Counted) (i : ℕ) (c : Counted) → i < length more
    → c ≡ get_or more i c
    → stands r (take (i + 1) more) ≡ (stands r (take i more) || same_row c.row r)
stands_more r more i c l at =
    simp (take_more more i c l, ← at) (stands_append r (take i more) (c ∷ []) ∙ grind arith)

-- ---- writes to the map alone

pub set_absent : (row : Row) (n : ℕ) (es : Entries) → lookup (same_row row) es ≡ None
    → set_value (same_row row) es n ≡ es
set_absent row n [] none = refl
set_absent row n (e ∷ es) none = grind (arith, set_absent row n es)

pub set_back : (row : Row) (n : ℕ) (es : Entries) → lookup (same_row row) es ≡ Some n
    → set_value (same_row row) es n ≡ es
set_back row n [] there = refl
set_back row n (e ∷ es) there = grind (arith, set_back row n es)

pub set_twice : (row : Row) (m n : ℕ) (es : Entries)
    → set_value (same_row row) (set_value (same_row row) es m) n ≡ set_value (same_row row) es n
set_twice row m n [] = refl
set_twice row m n (e ∷ es) = grind (arith, set_twice row m n es)

pub lookup_set : (row : Row) (n : ℕ) (es : Entries) → is_some (lookup (same_row row) es) ≡ true
    → lookup (same_row row) (set_value (same_row row) es n) ≡ Some n
lookup_set row n [] there = grind arith
lookup_set row n (e ∷ es) there = grind (arith, lookup_set row n es)

-- where a row gets another count that isn't 0, all are counted still
pub set_counted : (row : Row) (n : ℕ) (es : Entries) → 0 < n → AreCounted (counted_in es)
    → AreCounted (counted_in (set_value (same_row row) es n))
set_counted row n [] some a = tt
set_counted row n (e ∷ es) some a = grind (arith, set_counted row n es some a.1)

-- all are counted where each that stands there is
pub counted_where : (es : Entries) → Once es → ((r : Row) → stands r (counted_in es) ≡ true
    → 0 < tally (is_row r.group r.pid) (counted_in es)) → AreCounted (counted_in es)
counted_where es d h = counted_from es d
    (λ r there. omega (arith, h r (stands_is r es ∙ there), count_is))

-- ---- rows that stand among others

pub stands_bare : (r : Row) (xs : List Counted)
    → stands r xs ≡ list_any (λ x. same_row x r) (bare_rows xs)
stands_bare r [] = refl
stands_bare r (x ∷ xs) = grind (arith, stands_bare r xs)

pub stands_at : (more : List Counted) (i : ℕ) (c : Counted) → i < length more → c ≡ get_or more i c
    → stands c.row more ≡ true
stands_at [] i c l at = grind arith
stands_at (x ∷ xs) zero c l at = grind (arith, rows_equal.refl c.row)
stands_at (x ∷ xs) (suc i) c l at = grind (arith, stands_at xs i c (omega arith) at)

pub counted_stands : (r : Row) (xs : List Counted) → AreCounted xs → stands r xs ≡ true
    → 0 < tally (is_row r.group r.pid) xs
counted_stands r [] a h = grind arith
counted_stands r (x ∷ xs) a h = grind (arith, counted_stands r xs a.1)

pub tally_stands : (r : Row) (xs : List Counted) → 0 < tally (is_row r.group r.pid) xs
    → stands r xs ≡ true
tally_stands r [] l = grind arith
tally_stands r (x ∷ xs) l = grind (arith, tally_stands r xs)

-- a process of the node is counted as the index has it
pub in_group_count : (node g : List ℕ) (p : Pid) (es : Entries) (o : Option ℕ) → Once es
    → node ≡ p.node → o ≡ lookup (same_row (row_at node g (key_of p))) es
    → tally (is_row g p) (counted_in es) ≡ unwrap_or o 0
in_group_count node g p es o d n is = count_is (row_in g p) es d
    ∙ ap (λ (x : Option ℕ). unwrap_or x 0)
    (sym (is ∙ (λ i. lookup (same_row (row_at (n i) g (key_of p))) es)))
