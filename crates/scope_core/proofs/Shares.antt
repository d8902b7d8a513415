-- What is counted is listed.
use Rattle.scope_core.proofs
use proofs.Words
use Words.{arith, Bool, cond, count_of, Counted, counted_cmp, fewer_length, filter, is_in}
use Words.{is_of_node, is_row, IsListing, IsPidListing, IsRowListing, length, length-spread, List}
use Words.{local_count, local_total, node_total, occurrences, of_node, Ordering, pid_cmp, pids_in}
use Words.{pids_total, refl, Rises, Row, rows_total, same, same_length, same_pid, same_row}
use Words.{same_row_decides, spread, spread_ascends, spread_counts, sym, Table, tally, total}
use Words.{total_filter, [], ℕ, ◌<◌, ◌∙◌, ◌∷◌, ◌≡◌, ◌≤◌}
use proofs.Rising.{in_group_rises, kept_counts}

-- the processes of the rows of a group
pub pids_listing : (g : List ℕ) (cs : List Counted) → Rises counted_cmp cs
    → IsPidListing (λ p. tally (is_row g p) cs) (pids_in g cs)
pids_listing g cs r = record {
  ascends = spread_ascends pid_cmp pids_total (λ c. c.row.pid) (λ c. c.count) (filter (is_in g) cs)
      (in_group_rises g cs r);
  counts = λ p. spread_counts same_pid (λ c. c.row.pid) (λ c. c.count) p (filter (is_in g) cs)
      ∙ total_filter (is_in g) (λ c. same_pid c.row.pid p) (λ c. c.count) cs;
}

-- the rows themselves
pub rows_listing : (cs : List Counted) → Rises counted_cmp cs
    → IsRowListing (λ g p. tally (is_row g p) cs) (spread (λ c. c.row) (λ c. c.count) cs)
rows_listing cs r = grind (arith, spread_ascends, rows_total, spread_counts)

-- one alone lists itself, and none does
pub short_listing : {A : Type 0} (cmp : A → A → Ordering) (alike : A → A → Bool) (xs : List A)
    → length xs < 2 → IsListing cmp alike (λ x. occurrences alike x xs) xs
short_listing cmp alike [] l = grind arith
short_listing cmp alike (x ∷ []) l = grind arith
short_listing cmp alike (x ∷ y ∷ ys) l = grind arith

-- how many rows a node has
pub node_rows : (node : List ℕ) (cs : List Counted)
    → total (λ c. c.count) (of_node node cs) ≡ tally (is_of_node node) cs
node_rows node [] = refl
node_rows node (c ∷ cs) = grind (arith, node_rows node cs)

module _ (node : List ℕ) (t : Table) (rows : List Row) where
  abbrev listed : List Row
  listed = spread (λ (c : Counted). c.row) (λ c. c.count) (of_node node t.rows)

  -- how often a row stands among those of a node
  listed_counts : (r : Row)
      → occurrences same_row r listed ≡ cond (same r.pid.node node) (count_of t r.group r.pid) 0
  listed_counts r =
      spread_counts same_row (λ (c : Counted). c.row) (λ c. c.count) r (of_node node t.rows)
      ∙ kept_counts (λ q. same q.node node) r.group r.pid t.rows

  length_listed : length listed ≡ node_total t node
  length_listed = grind (arith, length-spread, node_rows)

  -- rows of a node, listed no more often than they are counted, are no more than it has
  pub fewer_rows : ((r : Row) → occurrences same_row r rows
      ≤ cond (same r.pid.node node) (count_of t r.group r.pid) 0) → length rows ≤ node_total t node
  fewer_rows few =
      let l = fewer_length same_row same_row_decides rows listed
      (λ r. grind (arith, few r, listed_counts)) in
      omega (arith, length_listed)

  -- and listed just as often, as many
  pub same_rows : ((r : Row) → occurrences same_row r rows
      ≡ cond (same r.pid.node node) (count_of t r.group r.pid) 0) → length rows ≡ node_total t node
  same_rows is =
      same_length same_row same_row_decides rows listed (λ r. is r ∙ sym (listed_counts r))
      ∙ length_listed

-- the own rows, listed, are as many as the own node has
pub length_local_rows : (t : Table) (rows : List Row) → IsRowListing (local_count t) rows
    → length rows ≡ local_total t
length_local_rows t rows l = grind (arith, same_rows)
