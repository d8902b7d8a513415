-- Rows that leave: how many they are, and what is counted once they are gone.
use Rattle.scope_core.proofs
use proofs.Words
use Words.{Adds, All, AllByRecursion, are_all_in, arith, cases_lt, change_unless_empty, cond}
use Words.{count_of, Counted, counted_cmp, false, filter, get_or, HasRoomFor, how_many, how_many_is}
use Words.{how_many_le, inl, inr, is_of_node, is_row, IsDifference, IsPidListing, Joins, length}
use Words.{length-filter, List, list_all, list_any, map, max_rows, mentions, min, nat_le, nat_lt}
use Words.{node_total, not, occurrences, one_difference, Pid, refl, Rises, Row, row_in, rows_total}
use Words.{same, same_decides, same_pid_decides, same_row, same_row_decides, same_sym, suc, Table}
use Words.{take, tally, tied_itself, true, without_node, zero, [], ℕ, ◌+◌, ◌-◌, ◌<◌, ◌∷◌, ◌≡◌, ◌≤◌}
use proofs.Calls.{all_or_none, alone_fit, mentions_in, no_others}
use proofs.Rising.{gone_counts, row_is, tally_all, tally_none}
use proofs.Runs.{all_at}
use proofs.Shares.{fewer_rows}

-- each of the rows is counted no more often than the list has it
pub within : (old cs : List Counted)
    → ((g : List ℕ) (p : Pid) → tally (is_row g p) cs ≤ tally (is_row g p) old)
    → AllByRecursion (λ c. c.count ≤ tally (is_row c.row.group c.row.pid) old) cs
within old [] l = tt
within old (c ∷ cs) l =
    let here = l c.row.group c.row.pid in (
      grind (arith, same_decides, same_pid_decides),
      within old cs (λ g p. grind (arith, l g p)),
    )

-- in rows that rise, none of those before a row is the same
pub none_before : (xs : List Counted) (i : ℕ) (c : Counted) → i < length xs → c ≡ get_or xs i c
    → Rises counted_cmp xs → tally (is_row c.row.group c.row.pid) (take i xs) ≡ 0
none_before [] i c l at r = grind arith
none_before (x ∷ xs) zero c l at r = refl
none_before (x ∷ xs) (suc i) c l at r =
    grind (arith, none_before xs i c (omega arith), all_at, row_is, tied_itself, rows_total)

-- ---- processes that leave a group

module _ (count : Pid → ℕ) where
  none_any : (qs : List Pid) → ((p : Pid) → 0 < mentions p qs → count p ≡ 0)
      → list_any (λ p. nat_lt 0 (count p)) qs ≡ false
  none_any [] h = refl
  none_any (q ∷ qs) h = grind (arith, none_any qs (λ p l. h p (grind arith)), h q, same_pid_decides)

  any_some : (q : Pid) (qs : List Pid) → 0 < count q → 0 < mentions q qs
      → list_any (λ p. nat_lt 0 (count p)) qs ≡ true
  any_some q [] c m = grind arith
  any_some q (x ∷ qs) c m = grind (arith, any_some q qs c, same_pid_decides)

  -- where nobody leaves, none of them is counted
  pub none_leaves : (ps gone : List Pid) → IsPidListing (λ p. min (mentions p ps) (count p)) gone
      → length gone ≡ 0 → list_any (λ p. nat_lt 0 (count p)) ps ≡ false
  none_leaves ps gone listing e = grind (arith, none_any, how_many_le)

  -- and where somebody does, one is
  pub some_leaves : (ps gone : List Pid) → IsPidListing (λ p. min (mentions p ps) (count p)) gone
      → 0 < length gone → list_any (λ p. nat_lt 0 (count p)) ps ≡ true
  some_leaves ps [] listing l = grind arith
  some_leaves ps (q ∷ qs) listing l =
      let here : 0 < mentions q (q ∷ qs) = grind (arith, same_pid_decides) in
      any_some q ps (omega (arith, listing.counts q)) (omega (arith, listing.counts q))

kept_occurrences : (r : Row) (node : List ℕ) (rows : List Row)
    → occurrences same_row r (filter (is_of_node node) rows) ≡ cond (same r.pid.node node)
    (occurrences same_row r rows) 0
kept_occurrences r node [] = grind arith
kept_occurrences r node (x ∷ rows) = grind (arith, kept_occurrences r node rows, same_pid_decides)

module _ (t : Table) (g : List ℕ) (ps gone : List Pid)
    (listing : IsPidListing (λ p. min (mentions p ps) (count_of t g p)) gone) where
  -- as no node has more than it may, no more leave
  pub gone_fit : ((n : List ℕ) → node_total t n ≤ max_rows) → HasRoomFor (map (row_in g) gone) []
  gone_fit few node =
      let rows = map (row_in g) gone in
      let le = fewer_rows node t (filter (is_of_node node) rows) (λ r. grind (
        arith,
        kept_occurrences,
        mentions_in g r.group r.pid gone,
        listing.counts r.pid,
        same_decides r.group g,
      )) in
      omega (
        arith,
        few node,
        how_many_is (is_of_node node) rows,
        length-filter (is_of_node node) rows,
      )

  module _ (counted : List Counted) (added : Adds (map (row_in g) gone) [] counted) where
    gone_tally : (h : List ℕ) (p : Pid)
        → tally (is_row h p) counted ≡ cond (same h g) (min (mentions p ps) (count_of t h p)) 0
    gone_tally h p = grind (arith, added (is_row h p), mentions_in, listing.counts p, same_decides)

    pub gone_within : AllByRecursion (λ c. c.count ≤ tally (is_row c.row.group c.row.pid) t.rows)
        counted
    gone_within = grind (arith, within, gone_tally)

    pub gone_left : (new : List Counted) → Joins counted new t.rows → (h : List ℕ) (p : Pid)
        → tally (is_row h p) new ≡ count_of t h p - cond (same h g) (mentions p ps) 0
    gone_left new joins h p = grind (arith, gone_tally, joins (is_row h p))

    pub gone_change : (new : List Counted) → Joins counted new t.rows
        → IsDifference (count_of t) (λ h p. tally (is_row h p) new) (change_unless_empty g gone [])
    gone_change new joins = grind (arith, one_difference, gone_tally, same_sym, same_decides)

-- ---- rows that leave a node

module _ (n : List ℕ) (rows : List Row) (own : All (λ r. r.pid.node ≡ n) rows) (t : Table)
    (there : are_all_in t.rows rows ≡ true) where
  each_listed : (r : Row) (rs : List Row)
      → list_all (λ x. nat_le (occurrences same_row x rows) (count_of t x.group x.pid)) rs ≡ true
      → 0 < occurrences same_row r rs → occurrences same_row r rows ≤ count_of t r.group r.pid
  each_listed r [] e l = grind arith
  each_listed r (x ∷ rs) e l = grind (arith, each_listed r rs, same_row_decides)

  pub listed_le : (r : Row) → occurrences same_row r rows ≤ count_of t r.group r.pid
  listed_le r = grind (arith, each_listed)

  listed_own : (r : Row)
      → occurrences same_row r rows ≤ cond (same r.pid.node n) (count_of t r.group r.pid) 0
  listed_own r = grind (arith, listed_le, no_others n rows own r.group r.pid)

  listed_few : length rows ≤ node_total t n
  listed_few = fewer_rows n t rows listed_own

  pub listed_fit : node_total t n ≤ max_rows → HasRoomFor rows []
  listed_fit few = grind (arith, alone_fit, listed_few)

  pub listed_within : (counted : List Counted) → Adds rows [] counted
      → AllByRecursion (λ c. c.count ≤ tally (is_row c.row.group c.row.pid) t.rows) counted
  listed_within counted added =
      within t.rows counted (λ g p. grind (arith, added (is_row g p), listed_le (row_in g p)))

  -- where they are as many as the node has, they are all
  all_listed : length rows ≡ node_total t n → (g : List ℕ) (p : Pid) → same p.node n ≡ true
      → how_many (is_row g p) rows ≡ count_of t g p
  all_listed e g p m = elim (cases_lt (how_many (is_row g p) rows) (count_of t g p)) [
    | inl less ↦
        let more = fewer_rows n t (row_in g p ∷ rows)
        (λ r. grind (arith, listed_own, same_row_decides (row_in g p) r)) in
        absurd (omega arith)
    | inr not_less ↦ omega (arith, listed_le (row_in g p))
  ]

  pub all_taken : length rows ≡ node_total t n → (g : List ℕ) (p : Pid)
      → count_of t g p ≡ tally (is_row g p) (without_node n t.rows) + how_many (is_row g p) rows
  all_taken e g p = grind (
    arith,
    gone_counts (λ q. same q.node n) g p t.rows,
    all_listed e g p,
    no_others n rows own g p,
  )

  pub all_totals : length rows ≡ node_total t n → (m : List ℕ)
      → tally (is_of_node m) t.rows ≡ tally (is_of_node m) (without_node n t.rows)
      + how_many (is_of_node m) rows
  all_totals e m =
      let none = tally_none (λ c. not (is_of_node n c.row)) (is_of_node n) (λ c h. grind arith)
      t.rows in
      let stay = λ (h : same n m ≡ false). tally_all (λ c. not (is_of_node n c.row)) (is_of_node m)
      (λ c k. grind (arith, same_decides)) t.rows in
      grind (arith, all_or_none n rows own m, same_decides n m)
