-- The rows of a node, as the index of groups has them in order.
use Rattle.scope_core.proofs
use proofs.Words
use Words.{all_append, AllByRecursion, ap, append_assoc, arith, Bool, cond, Counted, counted_cmp}
use Words.{counted_in, entries_of, false, flat_map, found, group_rows, is_eq, is_row, key_cmp}
use Words.{key_of, keys_of, Less, List, lookup, mentions, Pid, pid_of, ProcessKey, refl, replicate}
use Words.{replicate_more, Rises, Row, row_cmp, row_in, same, same_decides, same_pid, same_sym}
use Words.{SmallMap, spread, spread_counts, sym, tally, text_cmp, texts_total, tied_itself, total}
use Words.{true, unwrap_or, [], ℕ, ◌++◌, ◌+◌, ◌∙◌, ◌∷◌, ◌≡◌}
use proofs.HashedRows.{one_key, one_text}
use proofs.Tallies.{tally_append}
use Rattle.std.specs.List.Sorted.{IsStrictlySortedBy}

abbrev Groups : Type 0
Groups = List (List ℕ × SmallMap ProcessKey ℕ)

abbrev pub SortedMembers : List ℕ × SmallMap ProcessKey ℕ → Type 0
SortedMembers e = IsStrictlySortedBy key_cmp (keys_of (entries_of e.1))

module _ (node : List ℕ) where
  -- a row of this group and process is below all of these
  abbrev IsBelow : List ℕ → ProcessKey → List Counted → Type 0
  IsBelow g a cs = AllByRecursion (λ d. row_cmp (row_in g (pid_of node a)) d.row ≡ Less) cs

  above_key : (g : List ℕ) (a : ProcessKey) (ms : List (ProcessKey × ℕ))
      → AllByRecursion (λ k. key_cmp a k ≡ Less) (keys_of ms) → IsBelow g a (group_rows node g ms)
  above_key g a [] l = tt
  above_key g a (m ∷ ms) l = grind (arith, above_key g a ms l.1, tied_itself, texts_total)

  members_rise : (g : List ℕ) (ms : List (ProcessKey × ℕ)) → IsStrictlySortedBy key_cmp (keys_of ms)
      → Rises counted_cmp (group_rows node g ms)
  unfolding IsStrictlySortedBy
  members_rise g [] s = tt
  members_rise g (m ∷ ms) s = (above_key g m.0 ms s.0, members_rise g ms s.1)

  abbrev pub flat : Groups → List Counted
  flat es = flat_map (λ e. group_rows node e.0 (entries_of e.1)) es

  above_rows : (g h : List ℕ) (a : ProcessKey) (ms : List (ProcessKey × ℕ)) → text_cmp g h ≡ Less
      → IsBelow g a (group_rows node h ms)
  above_rows g h a [] l = tt
  above_rows g h a (m ∷ ms) l = (grind arith, above_rows g h a ms l)

  above_flat : (g : List ℕ) (a : ProcessKey) (es : Groups)
      → AllByRecursion (λ h. text_cmp g h ≡ Less) (keys_of es) → IsBelow g a (flat es)
  above_flat g a [] l = tt
  above_flat g a (e ∷ es) l =
      all_append _ _ _ (above_rows g e.0 a (entries_of e.1) l.0) (above_flat g a es l.1)

  rise_before : (g : List ℕ) (ms : List (ProcessKey × ℕ)) (es : Groups)
      → Rises counted_cmp (group_rows node g ms)
      → AllByRecursion (λ h. text_cmp g h ≡ Less) (keys_of es)
      → Rises counted_cmp (flat es) → Rises counted_cmp (group_rows node g ms ++ flat es)
  rise_before g [] es r l f = f
  rise_before g (m ∷ ms) es r l f =
      (all_append _ _ _ r.0 (above_flat g m.0 es l), rise_before g ms es r.1 l f)

  -- the rows of all groups rise
  pub flat_rises : (es : Groups) → IsStrictlySortedBy text_cmp (keys_of es)
      → AllByRecursion SortedMembers es → Rises counted_cmp (flat es)
  unfolding IsStrictlySortedBy
  flat_rises [] s a = tt
  flat_rises (e ∷ es) s a = grind (arith, flat_rises es s.1 a.1, rise_before, members_rise)

  -- ---- counts

  pub other_group : (g h : List ℕ) (p : Pid) (ms : List (ProcessKey × ℕ)) → same h g ≡ false
      → tally (is_row g p) (group_rows node h ms) ≡ 0
  other_group g h p [] e = refl
  other_group g h p (m ∷ ms) e = grind (arith, other_group g h p ms e)

  other_node : (g h : List ℕ) (p : Pid) (ms : List (ProcessKey × ℕ)) → same node p.node ≡ false
      → tally (is_row g p) (group_rows node h ms) ≡ 0
  other_node g h p [] e = refl
  other_node g h p (m ∷ ms) e = grind (arith, other_node g h p ms e)

  above_none : (g h : List ℕ) (p : Pid) (k : ProcessKey) (ms : List (ProcessKey × ℕ)) → k ≡ key_of p
      → AllByRecursion (λ q. key_cmp k q ≡ Less) (keys_of ms)
      → tally (is_row g p) (group_rows node h ms) ≡ 0
  above_none g h p k [] e a = refl
  above_none g h p k (m ∷ ms) e a = grind (arith, above_none g h p k ms e a.1, one_key)

  members_tally : (g : List ℕ) (p : Pid) (ms : List (ProcessKey × ℕ)) → p.node ≡ node
      → IsStrictlySortedBy key_cmp (keys_of ms) → tally (is_row g p) (group_rows node g ms)
      ≡ unwrap_or (lookup (λ q. is_eq (key_cmp (key_of p) q)) ms) 0
  unfolding IsStrictlySortedBy
  members_tally g p [] own s = refl
  members_tally g p (m ∷ ms) own s =
      let rest = members_tally g p ms own s.1 in
      let none = λ (h : m.0 ≡ key_of p). above_none g g p m.0 ms h s.0 in
      grind (arith, one_key, same_decides)

  later_groups : (g : List ℕ) (p : Pid) (h : List ℕ) (es : Groups) → h ≡ g
      → AllByRecursion (λ k. text_cmp h k ≡ Less) (keys_of es) → tally (is_row g p) (flat es) ≡ 0
  later_groups g p h [] e a = refl
  later_groups g p h (x ∷ es) e a =
      let rest = later_groups g p h es e a.1 in
      let mine = other_group g x.0 p (entries_of x.1) in
      grind (arith, tally_append, same_decides, tied_itself texts_total g)

  pub group_total : (test : Row → Bool) (g : List ℕ) (ms : List (ProcessKey × ℕ))
      → tally test (group_rows node g ms)
      ≡ total (λ m. cond (test (row_in g (pid_of node m.0))) m.1 0) ms
  group_total test g [] = refl
  group_total test g (m ∷ ms) = grind (arith, group_total test g ms)

  pub member_counts : (g : List ℕ) (p : Pid) (ms : List (ProcessKey × ℕ))
      → mentions p (spread (λ m. pid_of node m.0) (λ m. m.1) ms)
      ≡ tally (is_row g p) (group_rows node g ms)
  member_counts g p ms =
      spread_counts same_pid (λ (m : ProcessKey × ℕ). pid_of node m.0) (λ m. m.1) p ms ∙ each ms
    where
      each : (xs : List (ProcessKey × ℕ))
          → total (λ m. cond (same_pid (pid_of node m.0) p) m.1 0) xs
          ≡ tally (is_row g p) (group_rows node g xs)
      each [] = refl
      each (m ∷ xs) = grind (arith, each xs, same_decides)

  -- processes of a group are mentioned as often as they are found there
  pub member_mentions : (g : List ℕ) (p : Pid) (ms : List (ProcessKey × ℕ))
      → IsStrictlySortedBy key_cmp (keys_of ms)
      → mentions p (spread (λ m. pid_of node m.0) (λ m. m.1) ms)
      ≡ cond (same node p.node) (unwrap_or (lookup (λ q. is_eq (key_cmp (key_of p) q)) ms) 0) 0
  member_mentions g p ms s =
      let mine = λ (h : same node p.node ≡ true).
      members_tally g p ms (sym ((same_decides node p.node).0 h)) s in
      grind (arith, λ (h : same node p.node ≡ false). other_node g g p ms h, member_counts)

  -- a process of the node is counted in the index as it is found there
  pub flat_tally : (g : List ℕ) (p : Pid) (es : Groups) → p.node ≡ node
      → IsStrictlySortedBy text_cmp (keys_of es) → AllByRecursion SortedMembers es
      → tally (is_row g p) (flat es)
      ≡ unwrap_or (found key_cmp (lookup (λ h. is_eq (text_cmp g h)) es) (key_of p)) 0
  unfolding IsStrictlySortedBy
  flat_tally g p [] own s a = refl
  flat_tally g p (e ∷ es) own s a =
      let rest = flat_tally g p es own s.1 a.1 in
      let none = λ (h : e.0 ≡ g). later_groups g p e.0 es h s.0 in
      let mine = members_tally e.0 p (entries_of e.1) own a.0 in
      let other = other_group g e.0 p (entries_of e.1) in
      grind (arith, one_text, same_decides, same_sym, tally_append)

  pub flat_others : (g : List ℕ) (p : Pid) (es : Groups) → same node p.node ≡ false
      → tally (is_row g p) (flat es) ≡ 0
  flat_others g p [] e = refl
  flat_others g p (x ∷ es) e = grind (arith, flat_others g p es e, other_node, tally_append)

-- the map has none of another node's processes
pub entries_others : (node g : List ℕ) (p : Pid) (es : List (Row × ℕ))
    → AllByRecursion (λ e. e.0.pid.node ≡ node) es → same node p.node ≡ false
    → tally (is_row g p) (counted_in es) ≡ 0
entries_others node g p [] a e = refl
entries_others node g p (x ∷ es) a e = grind (arith, entries_others node g p es a.1 e)

-- one row more of a process
pub behind_next : (rows rest others : List Row) (n : ℕ) (x row : Row) → rows ≡ replicate n x ++ rest
    → rest ≡ row ∷ others → row ≡ x → rows ≡ replicate (n + 1) x ++ others
behind_next rows rest others n x row was first is =
    was ∙ ap (λ rs. replicate n x ++ rs) (first ∙ ap (λ r. r ∷ others) is)
    ∙ sym (append_assoc (replicate n x) (x ∷ []) others)
    ∙ ap (λ ys. ys ++ others) (replicate_more n x)
