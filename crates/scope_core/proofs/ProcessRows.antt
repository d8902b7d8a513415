-- The changes where one process of a node leaves its groups.
use Rattle.scope_core.proofs
use proofs.Words
use Words.{AllByRecursion, ap, append-nil, arith, Ascends, BTreeMap, changes_left_by, cond, Counted}
use Words.{counted_in, exact_bytes, false, find_in, found, get, GroupChange, has_row}
use Words.{how_many_replicate}
use Words.{is_among, is_eq, is_row, is_some, IsDifference, IsDistinct, IsHashed, IsProper, key_cmp}
use Words.{key_of, keys_of, length, Less, List, lookup, map, None, one_of_many, Option, Pid}
use Words.{pid_cmp}
use Words.{pids_total, ProcessKey, refl, replicate, Rises, Row, row_in, same, same_decides, Some}
use Words.{same_pid, same_pid_decides, same_row, same_sym, SmallMap, spread_ascends, subst, sym}
use Words.{tally, text_cmp, texts_total, times_joined, times_left, total, true, [], ℕ, ◌-◌, ◌∙◌}
use Words.{◌∷◌, ◌≡◌}
use proofs.GroupRows.{entries_others}
use proofs.HashedRows.{count_is, one_key, one_text, same_key_decides}
use proofs.HashedWrites.{in_group_count}
use proofs.Tallies.{none_mentioned}
use Rattle.std.specs.List.Sorted.{IsStrictlySortedBy}

-- a group is found among those of the process where it is one of them
pub in_keys : {V : Type 0} (g : List ℕ) (es : List (List ℕ × V))
    → is_some (lookup (λ h. is_eq (text_cmp g h)) es) ≡ is_among g (keys_of es)
in_keys g [] = refl
in_keys g (e ∷ es) = grind (arith, in_keys g es, one_text, same_sym)

-- so is each group under which a process is found
pub found_among : (g : List ℕ) (k : ProcessKey)
    (groups : BTreeMap (List ℕ) (SmallMap ProcessKey ℕ))
    → is_some (find_in text_cmp key_cmp groups g k) ≡ true
    → is_among g (keys_of groups.entries) ≡ true
found_among g k groups there = sym (in_keys g groups.entries) ∙ by (get text_cmp groups g) there
  where
    by : (o : Option (SmallMap ProcessKey ℕ)) → is_some (found key_cmp o k) ≡ true
        → is_some o ≡ true
    by None h = h
    by (Some m) h = refl

pub sorted_rises : (gs : List (List ℕ)) → IsStrictlySortedBy text_cmp gs → Rises text_cmp gs
unfolding IsStrictlySortedBy
sorted_rises [] s = tt
sorted_rises (g ∷ gs) s = (s.0, sorted_rises gs s.1)

-- ---- groups, and how often the process is counted in each

module _ (rows : List Counted) (p : Pid) where
  abbrev count : List ℕ → ℕ
  count g = tally (is_row g p) rows

  abbrev left : List (List ℕ) → List GroupChange
  left gs = changes_left_by rows p gs

  abbrev Above : List ℕ → List (List ℕ) → Type 0
  Above g hs = AllByRecursion (λ h. text_cmp g h ≡ Less) hs

  above : (g : List ℕ) (gs : List (List ℕ)) → Above g gs → Above g (map (λ c. c.group) (left gs))
  above g [] l = tt
  above g (h ∷ gs) l = grind (arith, above g gs l.1)

  left_rises : (gs : List (List ℕ)) → Rises text_cmp gs
      → Rises text_cmp (map (λ c. c.group) (left gs))
  left_rises [] r = tt
  left_rises (g ∷ gs) r = grind (arith, left_rises gs r.1, above g gs r.0)

  copies_ascend : (n : ℕ) → Ascends pid_cmp (replicate n p)
  copies_ascend n = subst (Ascends pid_cmp) (append-nil (replicate n p))
      (spread_ascends pid_cmp pids_total (λ q. q) (λ q. n) (p ∷ []) (tt, tt))

  left_proper : (gs : List (List ℕ)) → AllByRecursion IsProper (left gs)
  left_proper [] = tt
  left_proper (g ∷ gs) = grind (arith, left_proper gs, copies_ascend)

  left_counted : (g : List ℕ) (q : Pid) (gs : List (List ℕ)) → times_left g q (left gs)
      ≡ total (λ h. cond (same h g) (cond (same_pid p q) (count h) 0) 0) gs
  left_counted g q [] = refl
  left_counted g q (h ∷ gs) = grind (
    arith,
    left_counted g q gs,
    how_many_replicate,
    none_mentioned q (replicate (count h) p),
  )

  left_once : (g : List ℕ) (q : Pid) (gs : List (List ℕ)) → Rises text_cmp gs
      → times_left g q (left gs) ≡ cond (is_among g gs) (cond (same_pid p q) (count g) 0) 0
  left_once g q gs r = left_counted g q gs
      ∙ one_of_many text_cmp same texts_total exact_bytes same_decides
      (λ h. cond (same_pid p q) (count h) 0) g gs r

  none_joined : (g : List ℕ) (q : Pid) (gs : List (List ℕ)) → times_joined g q (left gs) ≡ 0
  none_joined g q [] = refl
  none_joined g q (h ∷ gs) = grind (arith, none_joined g q gs)

-- ---- where the groups of the process are among these, which are in order

module _ (es : List (Row × ℕ)) (once : IsDistinct same_row (keys_of es)) (p : Pid)
    (gs : List (List ℕ)) (rises : Rises text_cmp gs)
    (all : (g : List ℕ) → has_row es (row_in g p) ≡ true → is_among g gs ≡ true) where
  abbrev rows : List Counted
  rows = counted_in es

  -- who isn't in one of them isn't counted
  all_times : (g : List ℕ) (q : Pid)
      → cond (is_among g gs) (cond (same_pid p q) (tally (is_row g p) rows) 0) 0
      ≡ cond (same_pid q p) (tally (is_row g q) rows) 0
  all_times g q = grind (arith, all g, count_is (row_in g p) es once, same_pid_decides)

  -- the changes are each difference in which the process leaves all groups
  pub process_leaves : (before after : List ℕ → Pid → ℕ) → ((g : List ℕ) (q : Pid)
      → before g q - after g q ≡ cond (same_pid q p) (tally (is_row g q) rows) 0)
      → ((g : List ℕ) (q : Pid) → after g q - before g q ≡ 0)
      → IsDifference before after (changes_left_by rows p gs)
  process_leaves before after goes none =
      grind (arith, left_rises, left_proper, left_once, all_times, none_joined)

-- of a single entry, no other key is found
only_one : {V : Type 0} (k j : ProcessKey) (es : List (ProcessKey × V)) → length es ≡ 1
    → is_some (lookup (λ q. is_eq (key_cmp k q)) es) ≡ true → is_eq (key_cmp k j) ≡ false
    → lookup (λ q. is_eq (key_cmp j q)) es ≡ None
only_one k j [] l there other = refl
only_one k j (e ∷ []) l there other = grind (arith, one_key, same_key_decides)
only_one k j (e ∷ f ∷ es) l there other = grind arith

-- where the index has the entry of one process alone, no row of another is counted
pub none_beside : {node : List ℕ} {es : List (Row × ℕ)}
    {groups : BTreeMap (List ℕ) (SmallMap ProcessKey ℕ)}
    {processes : BTreeMap ProcessKey (SmallMap (List ℕ) (Unit {0}))}
    → IsHashed node es groups (Some processes) → (q : Pid) → q.node ≡ node
    → length processes.entries ≡ 1
    → is_some (lookup (λ k. is_eq (key_cmp (key_of q) k)) processes.entries) ≡ true
    → (g : List ℕ) (p : Pid) → same_pid p q ≡ false → tally (is_row g p) (counted_in es) ≡ 0
none_beside {node} {es} {groups} {processes} h q own one there g p other =
    let here : same node p.node ≡ true → tally (is_row g p) (counted_in es) ≡ 0 = λ e.
    let key : is_eq (key_cmp (key_of q) (key_of p)) ≡ false =
    grind (arith, same_decides, one_key) in
    let none = sym (h.by_process (key_of p) g) ∙ ap (λ o. is_some (found text_cmp o g))
    (only_one (key_of q) (key_of p) processes.entries one there key) in
    let count = in_group_count node g p es _ h.once ((same_decides node p.node).0 e) refl in
    grind (arith, count) in
    grind (arith, entries_others)
