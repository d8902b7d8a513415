-- What the index of groups counts: the rows of the node, and what changes where all leave.
use Rattle.scope_core.proofs
use proofs.Words
use Words.{all_append, AllByRecursion, ap, append-nil, arith, Ascends, BTreeMap}
use Words.{change_unless_empty, cond, counted_in, entries_of, false, flat_map, group_rows}
use Words.{GroupChange, how_many, how_many_append, is_gt, is_row, IsDifference, IsHashed, IsProper}
use Words.{key_cmp, key_of, keys_of, length, Less, List, map, mentions, Pid, pid_cmp, pid_of}
use Words.{pids_total, Option, ProcessKey, refl, replicate, Rises, Row, row_in, same, same_decides}
use Words.{same_row, SmallMap, spread, spread_ascends, spread_counts, subst, suc, sym, tally}
use Words.{text_cmp, texts_total, tied_itself, times_joined, times_left, true, zero, [], ℕ, ◌++◌}
use Words.{◌-◌, ◌==◌, ◌∙◌, ◌∷◌, ◌≡◌}
use proofs.HashedWrites.{in_group_count}
use proofs.Tallies.{none_mentioned, tally_append}
use proofs.GroupRows.{entries_others, flat, flat_others, flat_tally, group_total, member_counts}
use proofs.GroupRows.{other_group, SortedMembers}
use Rattle.std.specs.List.Sorted.{IsStrictlySortedBy}

abbrev Members : Type 0
Members = List (ProcessKey × ℕ)

abbrev GroupEntry : Type 0
GroupEntry = List ℕ × SmallMap ProcessKey ℕ

module _ (node : List ℕ) where
  -- ---- rows, each as often as it is counted

  abbrev pub members_repeated : List ℕ → Members → List Row
  members_repeated g ms = spread (λ m. row_in g (pid_of node m.0)) (λ m. m.1) ms

  abbrev pub repeated : List GroupEntry → List Row
  repeated es = flat_map (λ e. members_repeated e.0 (entries_of e.1)) es

  members_times : (g h : List ℕ) (p : Pid) (ms : Members)
      → how_many (is_row g p) (members_repeated h ms) ≡ tally (is_row g p) (group_rows node h ms)
  members_times g h p ms =
      spread_counts same_row (λ m. row_in h (pid_of node m.0)) (λ m. m.1) (row_in g p) ms
      ∙ sym (group_total node (is_row g p) h ms)

  repeated_times : (g : List ℕ) (p : Pid) (es : List GroupEntry)
      → how_many (is_row g p) (repeated es) ≡ tally (is_row g p) (flat node es)
  repeated_times g p [] = refl
  repeated_times g p (e ∷ es) =
      grind (arith, repeated_times g p es, how_many_append, tally_append, flat, members_times)

  -- ---- what changes where all leave

  abbrev left_of : GroupEntry → List Pid
  left_of e = spread (λ m. pid_of node m.0) (λ m. m.1) (entries_of e.1)

  abbrev pub all_gone : List GroupEntry → List GroupChange
  all_gone es = flat_map (λ e. change_unless_empty e.0 (left_of e) []) es

  left_above : (a : ProcessKey) (ms : Members)
      → AllByRecursion (λ k. key_cmp a k ≡ Less) (keys_of ms)
      → AllByRecursion (λ m. pid_cmp (pid_of node a) (pid_of node m.0) ≡ Less) ms
  left_above a [] l = tt
  left_above a (m ∷ ms) l = grind (arith, left_above a ms l.1, tied_itself, texts_total)

  left_rises : (ms : Members) → IsStrictlySortedBy key_cmp (keys_of ms)
      → Rises (λ m n. pid_cmp (pid_of node m.0) (pid_of node n.0)) ms
  unfolding IsStrictlySortedBy
  left_rises [] s = tt
  left_rises (m ∷ ms) s = (left_above m.0 ms s.0, left_rises ms s.1)

  pub left_ascends : (e : GroupEntry) → SortedMembers e → Ascends pid_cmp (left_of e)
  left_ascends e s = grind (arith, spread_ascends, pids_total, left_rises)

  copies_own : (k : ProcessKey) (n : ℕ)
      → AllByRecursion (λ p. p.node ≡ node) (replicate n (pid_of node k))
  copies_own k zero = tt
  copies_own k (suc n) = (refl, copies_own k n)

  left_own : (ms : Members)
      → AllByRecursion (λ p. p.node ≡ node) (spread (λ m. pid_of node m.0) (λ m. m.1) ms)
  left_own [] = tt
  left_own (m ∷ ms) = all_append _ _ _ (copies_own m.0 m.1) (left_own ms)

  not_above : (p : Pid) (qs : List Pid) → text_cmp p.node node ≡ Less
      → AllByRecursion (λ q. q.node ≡ node) qs
      → AllByRecursion (λ q. is_gt (pid_cmp p q) ≡ false) qs
  not_above p [] l own = tt
  not_above p (q ∷ qs) l own = (grind arith, not_above p qs l own.1)

  -- behind processes of nodes below they ascend too
  pub left_behind : (e : GroupEntry) → SortedMembers e → (ps : List Pid)
      → AllByRecursion (λ p. text_cmp p.node node ≡ Less) ps → Ascends pid_cmp ps
      → Ascends pid_cmp (ps ++ left_of e)
  left_behind e s [] below a = left_ascends e s
  left_behind e s (p ∷ ps) below a = (
    all_append _ ps _ a.0 (not_above p (left_of e) below.0 (left_own (entries_of e.1))),
    left_behind e s ps below.1 a.1,
  )

  abbrev groups_in : List GroupChange → List (List ℕ)
  groups_in changes = map (λ c. c.group) changes

  abbrev Above : List ℕ → List (List ℕ) → Type 0
  Above g hs = AllByRecursion (λ h. text_cmp g h ≡ Less) hs

  above_all : (g : List ℕ) (es : List GroupEntry) → Above g (keys_of es)
      → Above g (groups_in (all_gone es))
  above_all g [] l = tt
  above_all g (e ∷ es) l = grind (arith, above_all g es l.1)

  gone_rises : (es : List GroupEntry) → IsStrictlySortedBy text_cmp (keys_of es)
      → Rises text_cmp (groups_in (all_gone es))
  unfolding IsStrictlySortedBy
  gone_rises [] s = tt
  gone_rises (e ∷ es) s = grind (arith, gone_rises es s.1, above_all e.0 es s.0)

  gone_proper : (es : List GroupEntry) → AllByRecursion SortedMembers es
      → AllByRecursion IsProper (all_gone es)
  gone_proper [] a = tt
  gone_proper (e ∷ es) a = grind (arith, gone_proper es a.1, left_ascends)

  members_left : (g h : List ℕ) (p : Pid) (ms : Members)
      → cond (same h g) (mentions p (spread (λ m. pid_of node m.0) (λ m. m.1) ms)) 0
      ≡ tally (is_row g p) (group_rows node h ms)
  members_left g h p ms = grind (arith, member_counts, other_group, same_decides)

  gone_left : (g : List ℕ) (p : Pid) (es : List GroupEntry)
      → times_left g p (all_gone es) ≡ tally (is_row g p) (flat node es)
  gone_left g p [] = refl
  gone_left g p (e ∷ es) =
      let ms = entries_of e.1 in
      let all = tally_append (is_row g p) (group_rows node e.0 ms) (flat node es) in
      grind (arith, none_mentioned, gone_left g p es, members_left g e.0 p ms)

  gone_joined : (g : List ℕ) (p : Pid) (es : List GroupEntry) → times_joined g p (all_gone es) ≡ 0
  gone_joined g p [] = refl
  gone_joined g p (e ∷ es) = grind (arith, gone_joined g p es)

  -- ---- where the map and the index hold the same rows

  module _ (es : List (Row × ℕ)) (groups : BTreeMap (List ℕ) (SmallMap ProcessKey ℕ))
      (processes : Option (BTreeMap ProcessKey (SmallMap (List ℕ) (Unit {0}))))
      (is : IsHashed node es groups processes)
      (sorted : IsStrictlySortedBy text_cmp (keys_of groups.entries))
      (members : AllByRecursion SortedMembers groups.entries) where
    -- each row is counted in the index as in the map
    pub index_tally : (g : List ℕ) (p : Pid)
        → tally (is_row g p) (flat node groups.entries) ≡ tally (is_row g p) (counted_in es)
    index_tally g p =
        let mine = λ (h : same node p.node ≡ true).
        let n = (same_decides node p.node).0 h in
        flat_tally node g p groups.entries (sym n) sorted members
        ∙ sym (in_group_count node g p es _ is.once n (is.by_group g (key_of p))) in
        let other = λ (h : same node p.node ≡ false).
        flat_others node g p groups.entries h ∙ sym (entries_others node g p es is.own h) in
        grind arith

    -- a list of all rows has each as often as it is counted
    pub all_repeated : (rows : List Row) → rows ≡ repeated groups.entries ++ []
        → (g : List ℕ) (p : Pid) → how_many (is_row g p) rows ≡ tally (is_row g p) (counted_in es)
    all_repeated rows all g p =
        ap (how_many (is_row g p)) (all ∙ append-nil (repeated groups.entries))
        ∙ repeated_times g p groups.entries ∙ index_tally g p

    -- the changes are each difference in which all rows leave
    pub all_leave : (changes : List GroupChange)
        → changes ++ all_gone [] ≡ all_gone groups.entries → (before after : List ℕ → Pid → ℕ)
        → ((g : List ℕ) (p : Pid) → before g p - after g p ≡ tally (is_row g p) (counted_in es))
        → ((g : List ℕ) (p : Pid) → after g p - before g p ≡ 0) → IsDifference before after changes
    all_leave changes all before after left none =
        subst (IsDifference before after) (sym all ∙ append-nil changes) (record {
          groups = gone_rises groups.entries sorted;
          proper = gone_proper groups.entries members;
          left = λ g p. gone_left g p groups.entries ∙ index_tally g p ∙ sym (left g p);
          joined = λ g p. gone_joined g p groups.entries ∙ sym (none g p);
        })

pub no_rows : (rows : List Row) → (length rows == 0) ≡ true → rows ≡ []
no_rows [] e = refl
no_rows (r ∷ rs) e = grind arith
