-- The tables of all nodes, and what a call does to one of them.
use Rattle.scope_core.proofs
use proofs.Words
use Words.{all_rows, AllByRecursion, ap, AreNodeLists, arith, Bool, Bor, cond, Counted, false}
use Words.{has_members, IfNone, IfSome, insert_entry, is_of_node, is_row, is_there, IsDistinct}
use Words.{IsNodeList, Joins, keys-set_value, keys_of, length, length-append, List, lookup}
use Words.{max_rows, NodeTable, None, not, of_node, Option, option_copied, option_map, Pid, refl}
use Words.{remove_entry, Row, rows_by_node, same, same_decides, same_pid, set_value, Some, subst}
use Words.{sym, tally, total, true, without_node, [], ℕ, ◌+◌, ◌∙◌, ◌∷◌, ◌≡◌, ◌≤◌}
use proofs.Rising.{kept_counts}
use proofs.NodeLists.{AreLists, Each, list_fits, list_found, Lists, no_list, node_tally}
use proofs.NodeLists.{none_filtered, own_list, put_tally, removed_rows, row_tally, set_same}
use proofs.NodeLists.{set_tally}

-- each table is that of its node
abbrev AllTables : List (List ℕ × NodeTable) → Type 0
AllTables es = AllByRecursion (λ e. (e.1.node ≡ e.0) × IsNodeList e.0 e.1.rows) es

-- ---- the lists of tables

pub lookup_by_node : (n : List ℕ) (es : List (List ℕ × NodeTable))
    → lookup (same n) (rows_by_node es) ≡ option_map (λ t. t.rows) (lookup (same n) es)
lookup_by_node n [] = refl
lookup_by_node n (e ∷ es) = grind (arith, lookup_by_node n es)

pub set_by_node : (n : List ℕ) (t : NodeTable) (es : List (List ℕ × NodeTable))
    → rows_by_node (set_value (same n) es t) ≡ set_value (same n) (rows_by_node es) t.rows
set_by_node n t [] = refl
set_by_node n t (e ∷ es) = grind (arith, set_by_node n t es)

pub removed_by_node : (n : List ℕ) (es : List (List ℕ × NodeTable))
    → rows_by_node (remove_entry (same n) es) ≡ remove_entry (same n) (rows_by_node es)
removed_by_node n [] = refl
removed_by_node n (e ∷ es) = grind (arith, removed_by_node n es)

pub inserted_by_node : (n : List ℕ) (t : NodeTable) (es : List (List ℕ × NodeTable))
    → rows_by_node (insert_entry same es n t) ≡ insert_entry same (rows_by_node es) n t.rows
inserted_by_node n t [] = refl
inserted_by_node n t (e ∷ es) = grind (arith, inserted_by_node n t es)

keys_by_node : (es : List (List ℕ × NodeTable)) → keys_of (rows_by_node es) ≡ keys_of es
keys_by_node [] = refl
keys_by_node (e ∷ es) = grind (arith, keys_by_node es)

pub lists_of : (es : List (List ℕ × NodeTable)) → AreNodeLists es → AreLists (rows_by_node es)
lists_of es are = record {
  each = each es are.each;
  apart = rw (keys_by_node es) are.apart;
}
  where
    each : (es : List (List ℕ × NodeTable)) → AllTables es → Each (rows_by_node es)
    each [] a = tt
    each (e ∷ es) a = (a.0.1, each es a.1)

-- ---- one table among them

module _ (n : List ℕ) where
  by_name : (es : List (List ℕ × NodeTable)) (t : NodeTable) → lookup (same n) es ≡ Some t
      → lookup (same n) (rows_by_node es) ≡ Some t.rows
  by_name es t found = grind (arith, lookup_by_node)

  pub table_node : (es : List (List ℕ × NodeTable)) (t : NodeTable) → AllTables es
      → lookup (same n) es ≡ Some t → t.node ≡ n
  table_node [] t a found = grind arith
  table_node (e ∷ es) t a found = grind (arith, table_node es t a.1, same_decides)

  pub table_list : (es : List (List ℕ × NodeTable)) (t : NodeTable) → AreNodeLists es
      → lookup (same n) es ≡ Some t → IsNodeList n t.rows
  table_list es t are found =
      list_found n (rows_by_node es) t.rows (lists_of es are) (by_name es t found)

  pub table_lists : (es : List (List ℕ × NodeTable)) (t : NodeTable) → AreNodeLists es
      → lookup (same n) es ≡ Some t → IsNodeList t.node t.rows
  table_lists es t are found = grind (arith, table_node, table_list)

  pub table_rows : (es : List (List ℕ × NodeTable)) (t : NodeTable) → AreNodeLists es
      → lookup (same n) es ≡ Some t → t.rows ≡ of_node n (all_rows (rows_by_node es))
  table_rows es t are found =
      sym (own_list n (rows_by_node es) t.rows (lists_of es are) (by_name es t found))

  pub no_table : (es : List (List ℕ × NodeTable)) → AreNodeLists es → lookup (same n) es ≡ None
      → of_node n (all_rows (rows_by_node es)) ≡ []
  no_table es are none = no_list n (rows_by_node es) (lists_of es are)
      (lookup_by_node n es ∙ ap (option_map (λ x. x.rows)) none)

  tables_rest : (es : List (List ℕ × NodeTable)) → AllTables es
      → AllTables (remove_entry (same n) es)
  tables_rest [] a = tt
  tables_rest (e ∷ es) a = grind (arith, tables_rest es a.1)

  pub tables_removed : (es new : List (List ℕ × NodeTable)) → AreNodeLists es
      → new ≡ remove_entry (same n) es → IsDistinct same (keys_of new) → AreNodeLists new
  tables_removed es new are is apart = record {
    each = subst AllTables (sym is) (tables_rest es are.each);
    apart = apart;
  }

  pub rows_removed : (es new : List (List ℕ × NodeTable)) → AreNodeLists es
      → new ≡ remove_entry (same n) es
      → all_rows (rows_by_node new) ≡ without_node n (all_rows (rows_by_node es))
  rows_removed es new are is =
      ap (λ xs. all_rows (rows_by_node xs)) is ∙ ap all_rows (removed_by_node n es)
      ∙ removed_rows n (rows_by_node es) (lists_of es are)

  -- no node has more rows than it may
  pub tables_few : (es : List (List ℕ × NodeTable)) → AreNodeLists es
      → tally (is_of_node n) (all_rows (rows_by_node es)) ≤ max_rows
  tables_few es are = by (lookup (same n) es) refl
    where
      by : (o : Option NodeTable) → lookup (same n) es ≡ o
          → tally (is_of_node n) (all_rows (rows_by_node es)) ≤ max_rows
      by None none =
          let e = node_tally n (is_of_node n) (λ r h. h) (all_rows (rows_by_node es))
          ∙ ap (tally (is_of_node n)) (no_table es are none) in omega arith
      by (Some t) found =
          let e = node_tally n (is_of_node n) (λ r h. h) (all_rows (rows_by_node es))
          ∙ ap (tally (is_of_node n)) (sym (table_rows es t are found)) in
          omega (arith, (table_list es t are found).few n)

  -- another table in the place of the node's, or a first one
  put_each : (es : List (List ℕ × NodeTable)) (t : NodeTable) → t.node ≡ n → IsNodeList n t.rows
      → AllTables es → AllTables (insert_entry same es n t)
  put_each [] t m is a = ((m, is), tt)
  put_each (e ∷ es) t m is a = put_case (same n e.0) refl (put_each es t m is a.1)
    where
      put_case : (b : Bool) → same n e.0 ≡ b → AllTables (insert_entry same es n t)
          → AllTables (cond b ((e.0, t) ∷ es) (e ∷ insert_entry same es n t))
      put_case true h rest = grind (arith, same_decides)
      put_case false h rest = (a.0, rest)

  pub tables_put : (es new : List (List ℕ × NodeTable)) (t : NodeTable) → AreNodeLists es
      → t.node ≡ n → IsNodeList n t.rows → new ≡ insert_entry same es n t
      → IsDistinct same (keys_of new) → AreNodeLists new
  tables_put es new t are m is e apart = grind (arith, put_each)

  pub rows_put : (es new : List (List ℕ × NodeTable)) (t : NodeTable) → AreNodeLists es
      → new ≡ insert_entry same es n t
      → Joins t.rows (without_node n (all_rows (rows_by_node es))) (all_rows (rows_by_node new))
  rows_put es new t are e test = ap (λ xs. tally test (all_rows (rows_by_node xs))) e
      ∙ ap (λ xs. tally test (all_rows xs)) (inserted_by_node n t es)
      ∙ put_tally n (rows_by_node es) t.rows test ∙ ap (λ rows. tally test rows + tally test t.rows)
      (removed_rows n (rows_by_node es) (lists_of es are))

  -- where the node has no table, all rows are of others
  pub none_without : (es : List (List ℕ × NodeTable)) → AreNodeLists es → lookup (same n) es ≡ None
      → without_node n (all_rows (rows_by_node es)) ≡ all_rows (rows_by_node es)
  none_without es are none =
      sym (none_filtered n (λ c. not (is_of_node n c.row)) (λ c e. ap not e) (rows_by_node es)
      (lists_of es are) (lookup_by_node n es ∙ ap (option_map (λ x. x.rows)) none))

  -- and more rows fit in, where the node has room for them
  pub table_fits : (es : List (List ℕ × NodeTable)) (v : NodeTable) (more : List Counted)
      → AreNodeLists es → lookup (same n) es ≡ Some v → IsNodeList n more
      → tally (is_of_node n) (all_rows (rows_by_node es)) + tally (is_of_node n) more ≤ max_rows
      → total (λ c. c.count) v.rows + total (λ c. c.count) more ≤ max_rows
  table_fits es v more are found is few =
      list_fits n (rows_by_node es) v.rows (by_name es v found) more (lists_of es are) is few

  -- whether a process of the node is in a group shows in its rows
  pub members_of_node : (g : List ℕ) (rows : List Counted)
      → tally (is_there g n) rows ≡ tally (is_there g n) (of_node n rows)
  members_of_node g rows = grind (arith, node_tally)

pub if_some : {A : Type 0} {P : A → Type 0} (o : Option (Bor A)) (l : Option A)
    → option_copied o ≡ l → ((t : A) → l ≡ Some t → P t) → IfSome o (λ b. P b.now)
if_some None l e f = tt
if_some (Some b) l e f = f b.now (sym e)

pub if_none : {A Q : Type 0} (o : Option (Bor A)) (l : Option A) → option_copied o ≡ l
    → (l ≡ None → Q) → IfNone o Q
if_none None l e f = f (sym e)
if_none (Some b) l e f = tt

-- ---- another table in the place of one

module _ (n : List ℕ) where
  set_each : (es : List (List ℕ × NodeTable)) (t : NodeTable) → t.node ≡ n → IsNodeList n t.rows
      → AllTables es → AllTables (set_value (same n) es t)
  set_each [] t m is a = tt
  set_each (e ∷ es) t m is a = set_case (same n e.0) refl (set_each es t m is a.1)
    where
      set_case : (b : Bool) → same n e.0 ≡ b → AllTables (set_value (same n) es t)
          → AllTables (cond b ((e.0, t) ∷ es) (e ∷ set_value (same n) es t))
      set_case true h rest = grind (arith, same_decides)
      set_case false h rest = (a.0, rest)

  set_length : (es : Lists) (v w : List Counted) → lookup (same n) es ≡ Some v
      → length (all_rows (set_value (same n) es w)) + length v ≡ length (all_rows es) + length w
  set_length [] v w found = grind arith
  set_length (e ∷ es) v w found =
      let rest = λ (f : lookup (same n) es ≡ Some v). set_length es v w f in
      grind (arith, length-append)

-- w in the place of v, which is the node's
module _ (n : List ℕ) (es fs : List (List ℕ × NodeTable)) (v w : NodeTable)
    (found : lookup (same n) es ≡ Some v) (is : fs ≡ set_value (same n) es w) where
  abbrev all_now : List Counted
  all_now = all_rows (rows_by_node fs)

  by_lists : all_now ≡ all_rows (set_value (same n) (rows_by_node es) w.rows)
  by_lists = grind (arith, set_by_node)

  pub tables_tally : (test : Row → Bool) → tally test all_now + tally test v.rows
      ≡ tally test (all_rows (rows_by_node es)) + tally test w.rows
  tables_tally test = grind (arith, by_lists, set_tally, by_name)

  pub tables_length : length all_now + length v.rows
      ≡ length (all_rows (rows_by_node es)) + length w.rows
  tables_length = grind (arith, by_lists, set_length, by_name)

  pub tables_same : w ≡ v → all_now ≡ all_rows (rows_by_node es)
  tables_same alike = grind (arith, by_lists, set_same, by_name)

  module _ (are : AreNodeLists es) (node : w.node ≡ v.node) where
    its_node : w.node ≡ n
    its_node = grind (arith, table_node)

    pub tables_set : IsNodeList w.node w.rows → AreNodeLists fs
    tables_set list = grind (arith, set_each, its_node, keys-set_value)

    -- in which groups the node has processes shows in its table
    pub tables_members : (g : List ℕ) → has_members g w.node w.rows ≡ has_members g n all_now
    tables_members g = grind (arith, tables_tally, members_of_node, table_rows, its_node)

module _ (n : List ℕ) where
  -- a row of the node is counted in its table
  pub table_count : (es : List (List ℕ × NodeTable)) (v : NodeTable) → AreNodeLists es
      → lookup (same n) es ≡ Some v → (g : List ℕ) (p : Pid) → p.node ≡ n
      → tally (is_row g p) (all_rows (rows_by_node es)) ≡ tally (is_row g p) v.rows
  table_count es v are found g p e = grind (arith, row_tally, table_rows)

-- a process is counted among the rows of its node
pub process_tally : (p : Pid) (rows : List Counted)
    → tally (λ r. same_pid r.pid p) rows ≡ tally (λ r. same_pid r.pid p) (of_node p.node rows)
process_tally p rows = grind (arith, node_tally)

-- the rows of a node are what is counted of its processes
pub node_count : (n g : List ℕ) (p : Pid) (all rows : List Counted) → rows ≡ of_node n all
    → tally (is_row g p) rows ≡ cond (same p.node n) (tally (is_row g p) all) 0
node_count n g p all rows is = ap (tally (is_row g p)) is ∙ kept_counts (λ q. same q.node n) g p all
