-- The list of one node among those of all.
use Rattle.scope_core.proofs
use proofs.Words
use Words.{All, all_rows, AllByRecursion, ap, append-nil, are_all_in, AreCounted, arith, Bool}
use Words.{Counted, false, filter, filter-append, insert_entry, is_of_node, is_row, IsDistinct}
use Words.{IsDistinct-head, IsDistinct-tail, IsNodeList, Joins, keys_of, length, List, list_all}
use Words.{lookup, max_rows, nat_le, None, none_passes_from_lookup, not, occurrences, of_node, Pid}
use Words.{recursion_from_All, refl, remove_entry, Row, same, same_decides, same_pid_decides}
use Words.{same_row, same_sym, set_value, Some, subst, sym, tally, total, true, without_node, [], ℕ}
use Words.{◌&&◌, ◌++◌, ◌+◌, ◌==◌, ◌∙◌, ◌∷◌, ◌≡◌, ◌≤◌}
use proofs.Rising.{all_unmapped, own_from_tally, tally_all}
use proofs.Tallies.{tally_append}

abbrev pub Lists : Type 0
Lists = List (List ℕ × List Counted)

abbrev pub Each : Lists → Type 0
Each es = AllByRecursion (λ e. IsNodeList e.0 e.1) es

-- each node has one list
pub record AreLists (es : Lists) : Type 0 where
  pub each : AllByRecursion (λ e. IsNodeList e.0 e.1) es
  pub apart : IsDistinct same (keys_of es)

-- none of the lists is the node's
abbrev Others : List ℕ → Lists → Type 0
Others node es = AllByRecursion (λ e. same node e.0 ≡ false) es

rest_others : (node : List ℕ) (e : List ℕ × List Counted) (es : Lists)
    → IsDistinct same (keys_of (e ∷ es)) → same node e.0 ≡ true → Others node es
rest_others node e es d h = all_unmapped (λ k. same node k ≡ false) (λ x. x.0) es
    (subst (λ n. AllByRecursion (λ k. same n k ≡ false) (keys_of es))
    (sym ((same_decides node e.0).0 h)) (IsDistinct-head _ _ _ d))

module _ (node : List ℕ) where
  -- ---- where all rows of other nodes stay

  module _ (keep : Counted → Bool)
      (others : (c : Counted) → same c.row.pid.node node ≡ false → keep c ≡ true) where
    kept_list : (other : List ℕ) (rows : List Counted)
        → AllByRecursion (λ c. c.row.pid.node ≡ other) rows → same node other ≡ false
        → filter keep rows ≡ rows
    kept_list other [] a e = refl
    kept_list other (c ∷ cs) a e = grind (arith, kept_list other cs a.1 e, same_sym)

    kept_all : (es : Lists) → Each es → Others node es → filter keep (all_rows es) ≡ all_rows es
    kept_all [] a o = refl
    kept_all (e ∷ es) a o = filter-append keep e.1 (all_rows es)
        ∙ (λ j. kept_list e.0 e.1 a.0.own o.0 j ++ kept_all es a.1 o.1 j)

    pub none_filtered : (es : Lists) → AreLists es → lookup (same node) es ≡ None
        → all_rows es ≡ filter keep (all_rows es)
    none_filtered es are none =
        sym (kept_all es are.each (none_passes_from_lookup (same node) es none))

  -- ---- where no row of another node is meant

  module _ (test : Counted → Bool)
      (others : (c : Counted) → same c.row.pid.node node ≡ false → test c ≡ false) where
    none_list : (other : List ℕ) (rows : List Counted)
        → AllByRecursion (λ c. c.row.pid.node ≡ other) rows → same node other ≡ false
        → filter test rows ≡ []
    none_list other [] a e = refl
    none_list other (c ∷ cs) a e = grind (arith, none_list other cs a.1 e, same_sym)

    none_all : (es : Lists) → Each es → Others node es → filter test (all_rows es) ≡ []
    none_all [] a o = refl
    none_all (e ∷ es) a o = filter-append test e.1 (all_rows es)
        ∙ (λ j. none_list e.0 e.1 a.0.own o.0 j ++ none_all es a.1 o.1 j)

  of_others : (c : Counted) → same c.row.pid.node node ≡ false → is_of_node node c.row ≡ false
  of_others c e = e

  own_rows : (rows : List Counted) → AllByRecursion (λ c. c.row.pid.node ≡ node) rows
      → of_node node rows ≡ rows
  own_rows [] a = refl
  own_rows (c ∷ cs) a = grind (arith, own_rows cs a.1, same_decides)

  -- the rows of a node's list are all of the node
  pub own_total : (rows : List Counted) → IsNodeList node rows
      → total (λ c. c.count) rows ≡ tally (is_of_node node) rows
  own_total rows is = each rows is.own
    where
      each : (rows : List Counted) → AllByRecursion (λ c. c.row.pid.node ≡ node) rows
          → total (λ c. c.count) rows ≡ tally (is_of_node node) rows
      each [] a = refl
      each (c ∷ cs) a = grind (arith, each cs a.1, same_decides)

  pub no_list : (es : Lists) → AreLists es → lookup (same node) es ≡ None
      → of_node node (all_rows es) ≡ []
  no_list es are none = none_all (λ c. is_of_node node c.row) of_others es are.each
      (none_passes_from_lookup (same node) es none)

  own_all : (es : Lists) (v : List Counted) → Each es → IsDistinct same (keys_of es)
      → lookup (same node) es ≡ Some v → of_node node (all_rows es) ≡ v
  own_all [] v a d found = grind arith
  own_all (e ∷ es) v a d found =
      let rest = own_all es v a.1 (IsDistinct-tail _ _ _ d) in
      let none = λ (h : same node e.0 ≡ true).
      none_all (λ c. is_of_node node c.row) of_others es a.1 (rest_others node e es d h) in
      let mine = λ (h : same node e.0 ≡ true).
      own_rows e.1 (rw ((same_decides node e.0).0 h) a.0.own) in
      let other = λ (h : same node e.0 ≡ false).
      none_list (λ c. is_of_node node c.row) of_others e.0 e.1 a.0.own h in
      grind (arith, filter-append, append-nil)

  -- the rows of the node are those of its list
  pub own_list : (es : Lists) (v : List Counted) → AreLists es → lookup (same node) es ≡ Some v
      → of_node node (all_rows es) ≡ v
  own_list es v are found = own_all es v are.each are.apart found

  each_found : (es : Lists) (v : List Counted) → Each es → lookup (same node) es ≡ Some v
      → IsNodeList node v
  each_found [] v a found = grind arith
  each_found (e ∷ es) v a found = grind (arith, each_found es v a.1, same_decides)

  pub list_found : (es : Lists) (v : List Counted) → AreLists es → lookup (same node) es ≡ Some v
      → IsNodeList node v
  list_found es v are found = each_found es v are.each found

  -- and all other rows stay
  pub set_tally : (es : Lists) (v w : List Counted) → lookup (same node) es ≡ Some v
      → (test : Row → Bool) → tally test (all_rows (set_value (same node) es w)) + tally test v
      ≡ tally test (all_rows es) + tally test w
  set_tally [] v w found test = grind arith
  set_tally (e ∷ es) v w found test =
      let rest = λ (f : lookup (same node) es ≡ Some v). set_tally es v w f test in
      grind (arith, tally_append)

  -- ---- a list in the place of the node's, or a first one

  pub put_tally : (es : Lists) (w : List Counted) (test : Row → Bool)
      → tally test (all_rows (insert_entry same es node w))
      ≡ tally test (all_rows (remove_entry (same node) es)) + tally test w
  put_tally [] w test = grind (arith, tally_append)
  put_tally (e ∷ es) w test = grind (arith, put_tally es w test, tally_append)

  -- ---- no list any more

  removed_all : (es : Lists) → Each es → IsDistinct same (keys_of es)
      → all_rows (remove_entry (same node) es) ≡ without_node node (all_rows es)
  removed_all [] a d = refl
  removed_all (e ∷ es) a d =
      let keep = λ (c : Counted). not (same c.row.pid.node node) in
      let others = λ (c : Counted) (h : same c.row.pid.node node ≡ false). ap not h in
      let rest = removed_all es a.1 (IsDistinct-tail _ _ _ d) in
      let stay =
      λ (h : same node e.0 ≡ true). kept_all keep others es a.1 (rest_others node e es d h) in
      let mine = λ (h : same node e.0 ≡ true).
      gone_list e.1 (rw ((same_decides node e.0).0 h) a.0.own) in
      let other = λ (h : same node e.0 ≡ false). kept_list keep others e.0 e.1 a.0.own h in
      grind (arith, filter-append)
    where
      gone_list : (rows : List Counted) → AllByRecursion (λ c. c.row.pid.node ≡ node) rows
          → without_node node rows ≡ []
      gone_list [] a = refl
      gone_list (c ∷ cs) a = grind (arith, gone_list cs a.1, same_decides)

  pub removed_rows : (es : Lists) → AreLists es
      → all_rows (remove_entry (same node) es) ≡ without_node node (all_rows es)
  removed_rows es are = removed_all es are.each are.apart

  -- ---- what a call does to the node's list

  own_tally : (rows : List Counted) → AllByRecursion (λ c. c.row.pid.node ≡ node) rows
      → tally (λ r. not (is_of_node node r)) rows ≡ 0
  own_tally [] a = refl
  own_tally (c ∷ cs) a = grind (arith, own_tally cs a.1, same_decides)

  -- where rows come or go, all are the node's still
  pub joined_list : (old more new : List Counted) → IsNodeList node old → IsNodeList node more
      → Joins more old new → AreCounted new
      → ((n : List ℕ) → tally (is_of_node n) new ≤ max_rows) → IsNodeList node new
  joined_list old more new is and joins counted few = grind (arith, own_from_tally, own_tally)

  pub lessened_list : (old new : List Counted) → IsNodeList node old
      → ((test : Row → Bool) → tally test new ≤ tally test old) → AreCounted new
      → IsNodeList node new
  lessened_list old new is less counted = grind (arith, own_tally, own_from_tally)

  pub set_same : (es : Lists) (v w : List Counted) → lookup (same node) es ≡ Some v → w ≡ v
      → all_rows (set_value (same node) es w) ≡ all_rows es
  set_same [] v w found is = refl
  set_same (e ∷ es) v w found is =
      grind (arith, λ (f : lookup (same node) es ≡ Some v). set_same es v w f is)

  -- what is of the node alone is counted in its list
  pub node_tally : (test : Row → Bool) → ((r : Row) → is_of_node node r ≡ false → test r ≡ false)
      → (rows : List Counted) → tally test rows ≡ tally test (of_node node rows)
  node_tally test h rows = grind (arith, tally_all)

  -- as many rows as the node has, its list has
  pub list_total : (es : Lists) (v : List Counted) → AreLists es → lookup (same node) es ≡ Some v
      → total (λ c. c.count) v ≡ tally (is_of_node node) (all_rows es)
  list_total es v are found = own_total v (list_found es v are found)
      ∙ sym (node_tally (is_of_node node) (λ r h. h) (all_rows es)
      ∙ ap (tally (is_of_node node)) (own_list es v are found))

  -- and more rows fit in, where the node has room for them
  pub list_fits : (es : Lists) (v : List Counted) → lookup (same node) es ≡ Some v
      → (more : List Counted) → AreLists es → IsNodeList node more
      → tally (is_of_node node) (all_rows es) + tally (is_of_node node) more ≤ max_rows
      → total (λ c. c.count) v + total (λ c. c.count) more ≤ max_rows
  list_fits es v found more are is few = omega (arith, list_total es v are found, own_total)

  -- a process of the node is counted in its list alone
  pub row_tally : (g : List ℕ) (p : Pid) → p.node ≡ node → (rows : List Counted)
      → tally (is_row g p) rows ≡ tally (is_row g p) (of_node node rows)
  row_tally g p e rows =
      let other =
      λ (r : Row) (h : is_of_node node r ≡ false). other_row g p r (ap (same r.pid.node) e ∙ h) in
      node_tally (is_row g p) other rows
    where
      other_row : (g : List ℕ) (p : Pid) (r : Row) → same r.pid.node p.node ≡ false
          → is_row g p r ≡ false
      other_row g p r h = grind arith

  pub lone_row : (h : List ℕ) (p : Pid) → same p.node node ≡ false → (rows : List Counted)
      → AllByRecursion (λ c. c.row.pid.node ≡ node) rows → tally (is_row h p) rows ≡ 0
  lone_row h p e [] a = refl
  lone_row h p e (c ∷ cs) a = grind (arith, lone_row h p e cs a.1, same_pid_decides, same_decides)

  all_in_each : (gone : List Row) (rows some : List Counted) → some ≡ of_node node rows
      → (rs : List Row) → AllByRecursion (λ r. r.pid.node ≡ node) rs
      → list_all (λ r. nat_le (occurrences same_row r gone) (tally (is_row r.group r.pid) rows)) rs
      ≡ list_all (λ r. nat_le (occurrences same_row r gone) (tally (is_row r.group r.pid) some)) rs
  all_in_each gone rows some is [] a = refl
  all_in_each gone rows some is (r ∷ rs) a =
      let here = row_tally r.group r.pid a.0 rows ∙ ap (tally (is_row r.group r.pid)) (sym is) in
      (λ j. nat_le (occurrences same_row r gone) (here j) && all_in_each gone rows some is rs a.1 j)

  -- whether rows of the node are there shows in its list
  pub all_in_list : (gone : List Row) → All (λ r. r.pid.node ≡ node) gone
      → (rows some : List Counted) → of_node node rows ≡ some
      → are_all_in rows gone ≡ are_all_in some gone
  all_in_list gone own rows some is = grind (arith, all_in_each, recursion_from_All)

-- among no rows is none
pub none_in : (gone : List Row) → are_all_in [] gone ≡ (length gone == 0)
none_in [] = refl
none_in (r ∷ rs) = grind (arith, same_row_itself)
  where
    same_row_itself : (r : Row) → same_row r r ≡ true
    same_row_itself r = grind (arith, same_decides, same_pid_decides)
