-- The rows that lists of members and of changes tell of.
use Rattle.scope_core.proofs
use proofs.Words
use Words.{all_append, AllByRecursion, arith, Ascends, cond, count_of, exact_bytes, false, filter}
use Words.{filter-append, flat_map, GroupChange, how_many_append, in_one_group, is_gt, IsDifference}
use Words.{IsGroupListing, IsPidListing, IsProper, IsRowListing, length, length-append, length-map}
use Words.{Less, List, map, mentions, node_total, occurrences, one_of_many, Pid, pid_cmp, refl}
use Words.{Rises, Row, row_cmp, row_in, rows_joined, rows_left, same, same_decides}
use Words.{same_pid_decides, same_row, same_sym, Table, text_cmp, texts_total, total, [], ℕ, ◌++◌}
use Words.{◌-◌, ◌∙◌, ◌∷◌, ◌≡◌, ◌≤◌}
use proofs.Calls.{mentions_in}
use proofs.Rising.{all_map, all_unmapped}
use proofs.Shares.{fewer_rows, same_rows}

-- rows of one group ascend as their processes
not_above_in : (g : List ℕ) (p : Pid) (ps : List Pid)
    → AllByRecursion (λ q. is_gt (pid_cmp p q) ≡ false) ps
    → AllByRecursion (λ r. is_gt (row_cmp (row_in g p) r) ≡ false) (map (row_in g) ps)
not_above_in g p [] a = tt
not_above_in g p (q ∷ ps) a =
    grind (arith, not_above_in g p ps a.1, in_one_group (row_in g p) (row_in g q) refl)

rows_ascend : (g : List ℕ) (ps : List Pid) (rest : List Row) → Ascends pid_cmp ps
    → AllByRecursion (λ r. text_cmp g r.group ≡ Less) rest → Ascends row_cmp rest
    → Ascends row_cmp (map (row_in g) ps ++ rest)
rows_ascend g [] rest a b r = r
rows_ascend g (p ∷ ps) rest a b r =
    let below =
    all_map (λ s. text_cmp g s.group ≡ Less) (λ s. is_gt (row_cmp (row_in g p) s) ≡ false)
    (λ s l. grind arith) rest b in (
      all_append _ _ _ (not_above_in g p ps a.0) below,
      rows_ascend g ps rest a.1 b r,
    )

module _ (part : GroupChange → List Pid) where
  abbrev moved : List GroupChange → List Row
  moved changes = flat_map (λ c. map (row_in c.group) (part c)) changes

  moved_above : (g : List ℕ) (changes : List GroupChange)
      → AllByRecursion (λ c. text_cmp g c.group ≡ Less) changes
      → AllByRecursion (λ r. text_cmp g r.group ≡ Less) (moved changes)
  moved_above g [] a = tt
  moved_above g (c ∷ cs) a = all_append _ _ _ (alone (part c)) (moved_above g cs a.1)
    where
      alone : (ps : List Pid)
          → AllByRecursion (λ r. text_cmp g r.group ≡ Less) (map (row_in c.group) ps)
      alone [] = tt
      alone (p ∷ ps) = (a.0, alone ps)

  moved_ascends : (changes : List GroupChange) → Rises text_cmp (map (λ c. c.group) changes)
      → AllByRecursion (λ c. Ascends pid_cmp (part c)) changes → Ascends row_cmp (moved changes)
  moved_ascends [] r a = tt
  moved_ascends (c ∷ cs) r a = rows_ascend c.group (part c) (moved cs) a.0
      (moved_above c.group cs (all_unmapped (λ g. text_cmp c.group g ≡ Less) (λ d. d.group) cs r.0))
      (moved_ascends cs r.1 a.1)

  moved_counts : (x : Row) (changes : List GroupChange) → occurrences same_row x (moved changes)
      ≡ total (λ c. cond (same c.group x.group) (mentions x.pid (part c)) 0) changes
  moved_counts x [] = refl
  moved_counts x (c ∷ cs) = grind (
    arith,
    moved_counts x cs,
    how_many_append,
    mentions_in c.group x.group x.pid (part c),
    same_sym x.group c.group,
  )

-- the rows of what left are what is less
pub left_listing : (before after : List ℕ → Pid → ℕ) (changes : List GroupChange)
    → IsDifference before after changes
    → IsRowListing (λ g p. before g p - after g p) (rows_left changes)
left_listing before after changes d = record {
  ascends = moved_ascends (λ c. c.left) changes d.groups
      (all_map IsProper _ (λ c p. p.left) changes d.proper);
  counts = λ x. moved_counts (λ c. c.left) x changes ∙ d.left x.group x.pid;
}

-- the rows of what joined are what is more
pub joined_listing : (before after : List ℕ → Pid → ℕ) (changes : List GroupChange)
    → IsDifference before after changes
    → IsRowListing (λ g p. after g p - before g p) (rows_joined changes)
joined_listing before after changes d = record {
  ascends = moved_ascends (λ c. c.joined) changes d.groups
      (all_map IsProper _ (λ c p. p.joined) changes d.proper);
  counts = λ x. moved_counts (λ c. c.joined) x changes ∙ d.joined x.group x.pid;
}

-- rows of a node, listed no more often than they are counted, are no more than it has
pub length_part_of_all : (t : Table) (node : List ℕ) (rows : List Row) → ((g : List ℕ) (p : Pid)
    → occurrences same_row (row_in g p) rows ≤ cond (same p.node node) (count_of t g p) 0)
    → length rows ≤ node_total t node
length_part_of_all t node rows few = grind (arith, fewer_rows)

-- of a list without the processes of other nodes
mentions_kept : (node : List ℕ) (p : Pid) (ps : List Pid)
    → mentions p (filter (λ q. same q.node node) ps) ≡ cond (same p.node node) (mentions p ps) 0
mentions_kept node p [] = grind arith
mentions_kept node p (q ∷ ps) = grind (arith, mentions_kept node p ps, same_pid_decides)

module _ (node : List ℕ) (members : List ℕ → List Pid) where
  -- the node's processes of a group
  abbrev ours : List ℕ → List Pid
  ours g = filter (λ p. same p.node node) (members g)

  abbrev rows_of : List (List ℕ) → List Row
  rows_of gs = flat_map (λ g. map (row_in g) (ours g)) gs

  length_rows : (gs : List (List ℕ))
      → length (filter (λ p. same p.node node) (flat_map members gs)) ≡ length (rows_of gs)
  length_rows [] = refl
  length_rows (g ∷ gs) = grind (arith, length_rows gs, filter-append, length-append, length-map)

  rows_counts : (x : Row) (gs : List (List ℕ)) → occurrences same_row x (rows_of gs)
      ≡ total (λ g. cond (same g x.group) (mentions x.pid (ours g)) 0) gs
  rows_counts x [] = refl
  rows_counts x (g ∷ gs) = grind (
    arith,
    rows_counts x gs,
    how_many_append,
    mentions_in g x.group x.pid (ours g),
    same_sym x.group g,
  )

-- the members of all groups are as many as the node's rows
pub length-members : (t : Table) (node : List ℕ) (gs : List (List ℕ)) (members : List ℕ → List Pid)
    → IsGroupListing (count_of t) gs → ((g : List ℕ) → IsPidListing (count_of t g) (members g))
    → length (filter (λ p. same p.node node) (flat_map members gs)) ≡ node_total t node
length-members t node gs members groups listings = length_rows node members gs
    ∙ same_rows node t (rows_of node members gs) (λ r.
    let one = one_of_many text_cmp same texts_total exact_bytes same_decides
    (λ g. mentions r.pid (ours node members g)) r.group gs groups.rises in
    let kept = mentions_kept node r.pid (members r.group) in
    grind (arith, rows_counts, (listings r.group).counts r.pid, groups.only r.group r.pid))
