-- What the calls of a table change, and when there is room: for rows of one node, and for own
-- processes.
use Rattle.scope_core.proofs
use proofs.Words
use Words.{Adds, All, All-map, AllByRecursion, arith, Bool, change_unless_empty, cond}
use Words.{count_after_add, count_after_sync, Counted, Counts, Covers, false, GroupChange}
use Words.{HasRoomFor, how_many, how_many_le, is_of_node, is_row, IsAddFault, IsDifference, IsKept}
use Words.{IsNodeList, IsPidListing, IsSyncFault, Joins, length, length-map, List, local_count}
use Words.{local_total, map, max_rows, mentions, min, not, not-false, not-true, NotJoined}
use Words.{NotListed, one_difference, OutOfMemory, Pid, recursion_from_All, refl, Row, row_in}
use Words.{RowsFull, same, same_decides, same_length, same_pid, same_pid_decides, same_sym, sym}
use Words.{Table, TableFault, tally, Tells, true, without_node, [], ℕ, ◌+◌, ◌∷◌, ◌≡◌, ◌≤◌}
use proofs.Rising.{all_map, gone_counts, none_pass, own_from_tally, row_is, tally_all, tally_none}
use proofs.Shares.{fewer_rows}
use proofs.Unnamed.{same_members, unnamed_same}
use proofs.Runs.{all_at}

-- no more rows than one node may have
pub alone_fit : (rows : List Row) → length rows ≤ max_rows → HasRoomFor rows []
alone_fit rows l node = grind (arith, how_many_le)

-- ---- rows of one node

module _ (n : List ℕ) where
  rows_of_one : (node : List ℕ) (rows : List Row) → AllByRecursion (λ r. r.pid.node ≡ n) rows
      → how_many (is_of_node node) rows ≡ cond (same n node) (length rows) 0
  rows_of_one node [] a = grind arith
  rows_of_one node (r ∷ rows) a = grind (arith, rows_of_one node rows a.1)

  rows_of_none : (g : List ℕ) (p : Pid) (rows : List Row)
      → AllByRecursion (λ r. r.pid.node ≡ n) rows → same p.node n ≡ false
      → how_many (is_row g p) rows ≡ 0
  rows_of_none g p [] a e = refl
  rows_of_none g p (r ∷ rows) a e =
      grind (arith, rows_of_none g p rows a.1 e, same_pid_decides, same_decides)

  -- how many own rows go with those of a node
  pub own_left : (own : List ℕ) (cs : List Counted) (m : ℕ) → m ≡ tally (is_of_node own) cs
      → tally (is_of_node own) (without_node n cs) + cond (same n own) m 0 ≡ m
  own_left own cs m is = grind (arith, same_decides, not-true, tally_none, not-false, tally_all)

  -- where a node has no rows, none of its rows is counted
  none_counted : (test : Row → Bool) → ((r : Row) → test r ≡ true → is_of_node n r ≡ true)
      → (cs : List Counted) → tally (is_of_node n) cs ≡ 0 → tally test cs ≡ 0
  none_counted test h [] e = refl
  none_counted test h (c ∷ cs) e = grind (arith, none_counted test h cs, h c.row)

  pub first_fault : (t : Table) (rows : List Row) (limit : ℕ) (fault : TableFault)
      → tally (is_of_node n) t.rows ≡ 0 → IsAddFault t n rows limit fault
      → IsSyncFault rows limit fault
  first_fault t rows limit RowsFull none h = omega arith
  first_fault t rows limit NotJoined none h = h
  first_fault t rows limit NotListed none h = h
  first_fault t rows limit OutOfMemory none h = omega arith

module _ (n : List ℕ) (rows : List Row) (own : All (λ r. r.pid.node ≡ n) rows) where
  all_of_one : AllByRecursion (λ r. r.pid.node ≡ n) rows
  all_of_one = recursion_from_All _ _ own

  -- all of them are of a node that is this one, and none of one that isn't
  pub all_or_none : (node : List ℕ)
      → how_many (is_of_node node) rows ≡ cond (same n node) (length rows) 0
  all_or_none node = rows_of_one n node rows all_of_one

  -- none is of a process of another node
  pub no_others : (g : List ℕ) (p : Pid) → same p.node n ≡ false → how_many (is_row g p) rows ≡ 0
  no_others g p e = rows_of_none n g p rows all_of_one e

  -- all that are counted of them are of the node
  pub counted_own : (counted : List Counted) → Adds rows [] counted → IsKept counted
      → IsNodeList n counted
  counted_own counted adds kept = record {
    counted = kept.counted;
    few = kept.few;
    own = let none : tally (λ r. not (is_of_node n r)) counted ≡ 0 =
        omega (arith, adds (λ r. not (is_of_node n r)), none_other rows all_of_one) in
        own_from_tally n counted kept.counted none;
  }
    where
      none_other : (rs : List Row) → AllByRecursion (λ r. r.pid.node ≡ n) rs
          → how_many (λ r. not (is_of_node n r)) rs ≡ 0
      none_other [] a = refl
      none_other (r ∷ rs) a = grind (arith, none_other rs a.1, same_decides)

  -- what is counted with them in place of those of the node
  pub sync_counts : (cs counted new : List Counted) → Adds rows [] counted
      → Joins counted (without_node n cs) new → (g : List ℕ) (p : Pid) → tally (is_row g p) new
      ≡ cond (same p.node n) (how_many (is_row g p) rows) (tally (is_row g p) cs)
  sync_counts cs counted new counts joins g p = grind (
    arith,
    counts (is_row g p),
    joins (is_row g p),
    gone_counts (λ q. same q.node n) g p cs,
    no_others,
  )

  -- where the node has no rows, they are put in the place of none
  pub first_counts : (t new : Table) → tally (is_of_node n) t.rows ≡ 0
      → Counts t new (count_after_add t rows) → Counts t new (count_after_sync t n rows)
  first_counts t new none added = record {
    own = added.own;
    counts = λ g p.
        let old = λ (e : same p.node n ≡ true).
        none_counted n (is_row g p) (λ r f. grind (arith, row_is)) t.rows none in
        grind (arith, added.counts g p, no_others g p);
  }

  -- where they replace those of the node, a group whose difference isn't told has processes of the
  -- node as before
  pub sync_covered : (cs counted : List Counted) (changes : List GroupChange) → Adds rows [] counted
      → (after : List ℕ → Pid → ℕ) → ((g : List ℕ) (p : Pid)
      → after g p ≡ cond (same p.node n) (how_many (is_row g p) rows) (tally (is_row g p) cs))
      → IsDifference (λ g p. tally (is_row g p) cs) after changes → Covers changes n cs counted
  sync_covered cs counted changes counts after is d g e = same_members g n counted cs
      (λ p m. grind (
        arith,
        unnamed_same _ after changes d g e p,
        is g p,
        counts (is_row g p),
        same_decides,
      ))

-- the change where rows are added
pub added_change : (rows : List Row) (cs counted new : List Counted) (changes : List GroupChange)
    → Tells [] counted changes → Adds rows [] counted → Joins counted cs new
    → IsDifference (λ g p. tally (is_row g p) cs) (λ g p. tally (is_row g p) new) changes
added_change rows cs counted new changes told counts joins =
    told _ _ (λ g p. grind (arith, joins (is_row g p)))
    (λ g p. grind (arith, joins (is_row g p), counts (is_row g p)))

-- where they are told, they cover what changes
pub told_covered : (n : List ℕ) (counted : List Counted) (changes : List GroupChange)
    → IsDifference (λ g p. 0) (λ g p. tally (is_row g p) counted) changes
    → Covers changes n [] counted
told_covered n counted changes d g e =
    same_members g n counted [] (λ p m. sym (unnamed_same _ _ changes d g e p))

pub added_covered : (n : List ℕ) (counted : List Counted) (changes : List GroupChange)
    → Tells [] counted changes → Covers changes n [] counted
added_covered n counted changes told =
    told_covered n counted changes (told _ _ (λ g p. omega arith) (λ g p. omega arith))

-- the change where rows are taken
pub taken_change : (rows : List Row) (cs counted new : List Counted) (changes : List GroupChange)
    → Tells counted [] changes → Adds rows [] counted → ((g : List ℕ) (p : Pid)
    → tally (is_row g p) cs ≡ tally (is_row g p) new + how_many (is_row g p) rows)
    → IsDifference (λ g p. tally (is_row g p) cs) (λ g p. tally (is_row g p) new) changes
taken_change rows cs counted new changes told counts taken =
    told _ _ (λ g p. grind (arith, taken g p, counts (is_row g p)))
    (λ g p. grind (arith, taken g p))

-- ---- own processes

-- the rows of a list of processes are the mentions of each
pub mentions_in : (g h : List ℕ) (p : Pid) (ps : List Pid)
    → how_many (is_row h p) (map (row_in g) ps) ≡ cond (same h g) (mentions p ps) 0
mentions_in g h p [] = grind arith
mentions_in g h p (q ∷ qs) = grind (arith, mentions_in g h p qs, same_sym)

-- the change of a join
pub joined_change : (g : List ℕ) (ps sorted : List Pid) (before after : List ℕ → Pid → ℕ)
    → IsPidListing (λ p. mentions p ps) sorted
    → ((h : List ℕ) (p : Pid) → after h p ≡ before h p + cond (same h g) (mentions p ps) 0)
    → IsDifference before after (change_unless_empty g [] sorted)
joined_change g ps sorted before after listing is = grind (arith, one_difference, same_sym)

-- the rows of own processes are own rows
pub own_rows : (own : List ℕ) (ps : List Pid) → All (λ p. p.node ≡ own) ps → (g node : List ℕ)
    → how_many (is_of_node node) (map (row_in g) ps) ≡ cond (same own node) (length ps) 0
own_rows own ps all g node = grind (
  arith,
  all_or_none own (map (row_in g) ps) (All-map (λ r. r.pid.node ≡ own) (row_in g) ps all) node,
  length-map,
)

-- own processes of one group are no more than all own rows
pub length-part : (t : Table) (g : List ℕ) (ps : List Pid)
    → ((p : Pid) → mentions p ps ≤ local_count t g p) → length ps ≤ local_total t
length-part t g ps few =
    let rows = fewer_rows t.own t (map (row_in g) ps)
    (λ r. grind (arith, mentions_in g r.group r.pid ps, few r.pid, same_decides)) in
    omega (arith, length-map ps (row_in g))

-- ---- own processes that would leave

-- a process of another node isn't mentioned
unmentioned : (own : List ℕ) (ps : List Pid) → All (λ q. q.node ≡ own) ps → (p : Pid)
    → same p.node own ≡ false → mentions p ps ≡ 0
unmentioned own ps all p other =
    grind (arith, none_pass, all_map, same_pid_decides, same_decides, recursion_from_All)

module _ (t : Table) (g : List ℕ) (ps gone : List Pid) (all : All (λ q. q.node ≡ t.own) ps)
    (listing : IsPidListing (λ p. min (mentions p ps) (tally (is_row g p) t.rows)) gone) where
  pub leaving_listing : IsPidListing (λ p. min (mentions p ps) (local_count t g p)) gone
  leaving_listing = grind (arith, unmentioned)

  pub leaving_few : length gone ≤ local_total t
  leaving_few = length-part t g gone (λ p. grind (arith, leaving_listing.counts p))

-- ---- own processes that join

module _ (own g : List ℕ) (ps sorted : List Pid) (all : All (λ q. q.node ≡ own) ps)
    (listing : IsPidListing (λ p. mentions p ps) sorted) where
  each_own : (qs : List Pid) → ((p : Pid) → mentions p qs ≤ mentions p ps)
      → AllByRecursion (λ q. q.node ≡ own) qs
  each_own [] few = tt
  each_own (q ∷ qs) few =
      let mine = λ (e : same q.node own ≡ false). unmentioned own ps all q e in (
        grind (arith, few q, same_pid_decides, same_decides),
        each_own qs (λ p. grind (arith, few p)),
      )

  sorted_own : All (λ q. q.node ≡ own) sorted
  sorted_own = λ k d l. all_at (λ q. q.node ≡ own) sorted k d
      (each_own sorted (λ p. grind (arith, listing.counts p))) l

  pub fresh_own : All (λ r. r.pid.node ≡ own) (map (row_in g) sorted)
  fresh_own = All-map (λ r. r.pid.node ≡ own) (row_in g) sorted sorted_own

  sorted_length : length sorted ≡ length ps
  sorted_length = same_length same_pid same_pid_decides sorted ps (λ p. listing.counts p)

  pub fresh_fit : length ps ≤ max_rows → HasRoomFor (map (row_in g) sorted) []
  fresh_fit few = grind (arith, alone_fit, sorted_length, length-map)

  module _ (counted : List Counted) (added : Adds (map (row_in g) sorted) [] counted) where
    pub fresh_counts : (h : List ℕ) (p : Pid)
        → tally (is_row h p) counted ≡ cond (same h g) (mentions p ps) 0
    fresh_counts h p = grind (arith, added (is_row h p), mentions_in, listing.counts p)

    pub fresh_total : (node : List ℕ)
        → tally (is_of_node node) counted ≡ cond (same own node) (length ps) 0
    fresh_total node =
        grind (arith, added (is_of_node node), own_rows own sorted sorted_own g node, sorted_length)

    pub fresh_list : IsKept counted → IsNodeList own counted
    fresh_list kept = counted_own own (map (row_in g) sorted) fresh_own counted added kept

    pub fresh_change : IsDifference (λ h p. 0) (λ h p. tally (is_row h p) counted)
        (change_unless_empty g [] sorted)
    fresh_change = joined_change g ps sorted (λ h p. 0) (λ h p. tally (is_row h p) counted) listing
        (λ h p. grind (arith, fresh_counts))
