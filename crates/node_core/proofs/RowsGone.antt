-- The rows that leave with a process.
use Rattle.node_core.proofs
use proofs.Words.{AllByRecursion, ap, arith, Ascends, cond, count_after_exit, count_in_group}
use proofs.Words.{count_of, false, filter, GroupChange, History, is_gt, is_of_node, IsDifference}
use proofs.Words.{IsListing, IsPlayed, IsProper, IsRunningOf, length, Less, List, local_count}
use proofs.Words.{local_rows, local_total, map, occurrences, Ordering, Pid, pid_cmp, refl, Rises}
use proofs.Words.{Row, row, row_cmp, rows_left, Running, same_decides, same_length, same_pid}
use proofs.Words.{same_pid_decides, same_row, same_row_decides, scope_words, spread, sym, Table}
use proofs.Words.{text_cmp, times_left, total, ℕ, [], ◌++◌, ◌+◌, ◌∙◌, ◌∷◌, ◌≡◌, ◌≤◌}
use Rattle.std.specs.Ordering.{ordering_then}
use Rattle.dist_types.proofs.Listings.{all_append, fewer_length, length-spread, spread_counts}
use Rattle.dist_types.proofs.Totals.{how_many_append}
use Rattle.policy_audit.proofs.Lists.{rows_of_group}
use Rattle.policy_audit.proofs.OwnRows.{exit_listing, local_rows_are}
use proofs.Scopes.{own_counts}
use Rattle.scope_core.specs.declared.counted.Counted.{Counted}

-- the own rows of a table, each as often as it is counted
abbrev pub own_rows : Table → List Row
own_rows t = spread (λ c. c.row) (λ c. cond (is_of_node t.own c.row) c.count 0) t.rows

own_shares : (own : List ℕ) (r : Row) (cs : List Counted)
    → total (λ c. cond (same_row c.row r) (cond (is_of_node own c.row) c.count 0) 0) cs
    ≡ cond (is_of_node own r) (total (λ c. cond (same_row c.row r) c.count 0) cs) 0
own_shares own r [] = grind arith
own_shares own r (c ∷ cs) = grind (arith, own_shares own r cs, same_row_decides c.row r)

pub own_occurs : (t : Table) (r : Row)
    → occurrences same_row r (own_rows t) ≡ local_count t r.group r.pid
own_occurs t r =
    spread_counts same_row (λ c. c.row) (λ c. cond (is_of_node t.own c.row) c.count 0) r t.rows
    ∙ own_shares t.own r t.rows

pub own_length : (t : Table) → length (own_rows t) ≡ local_total t
own_length t = length-spread (λ c. c.row) (λ c. cond (is_of_node t.own c.row) c.count 0) t.rows

-- rows that are counted at most as often as own rows are no more than those
pub few_rows : (t : Table) (rows : List Row)
    → ((r : Row) → occurrences same_row r rows ≤ local_count t r.group r.pid)
    → length rows ≤ local_total t
few_rows t rows few =
    let within = fewer_length same_row same_row_decides rows (own_rows t) (λ r. let is =
    own_occurs t r in let some = few r in omega arith) in
    let is = own_length t in
    omega arith

-- the rows of the policy are as many as the table counts
pub rows_total : (h : History) (s : List ℕ) (r : Running) → r.scope ≡ s
    → IsRunningOf (scope_words h) r → IsPlayed h → length (local_rows h s) ≡ local_total r.table
rows_total h s r named t legal =
    same_length same_row same_row_decides (local_rows h s) (own_rows r.table)
    (λ x. IsListing.counts (local_rows_are h s) x
    ∙ sym (ap (λ f. f x.group x.pid) (own_counts h s r named t legal))
    ∙ sym (own_occurs r.table x))
    ∙ own_length r.table

-- each row leaves as often as the changes say
left_occurs : (r : Row) (gs : List GroupChange)
    → occurrences same_row r (rows_left gs) ≡ times_left r.group r.pid gs
left_occurs r [] = refl
left_occurs r (c ∷ gs) =
    how_many_append (λ s. same_row s r) (map (row c.group) c.left) (rows_left gs)
    ∙ ap (λ (n : ℕ × ℕ). n.0 + n.1) (λ i. (count_in_group r c.group c.left i, left_occurs r gs i))

ascends_append : {A : Type 0} (R : A → A → Ordering) (xs ys : List A) → Ascends R xs → Ascends R ys
    → AllByRecursion (λ x. AllByRecursion (λ y. is_gt (R x y) ≡ false) ys) xs → Ascends R (xs ++ ys)
ascends_append R [] ys a b c = b
ascends_append R (x ∷ xs) ys a b c =
    (all_append (λ y. is_gt (R x y) ≡ false) xs ys a.0 c.0, ascends_append R xs ys a.1 b c.1)

before : (g : List ℕ) (p : Pid) (gs : List GroupChange)
    → AllByRecursion (λ f. text_cmp g f ≡ Less) (map (λ c. c.group) gs)
    → AllByRecursion (λ r. is_gt (row_cmp (row g p) r) ≡ false) (rows_left gs)
before g p [] a = tt
before g p (c ∷ gs) a =
    all_append (λ r. is_gt (row_cmp (row g p) r) ≡ false) (map (row c.group) c.left) (rows_left gs)
    (each c.left) (before g p gs a.1)
  where
    each : (qs : List Pid)
        → AllByRecursion (λ r. is_gt (row_cmp (row g p) r) ≡ false) (map (row c.group) qs)
    each [] = tt
    each (q ∷ qs) = (ap (λ o. is_gt (ordering_then o (pid_cmp p q))) a.0, each qs)

left_ascends : (gs : List GroupChange) → Rises text_cmp (map (λ c. c.group) gs)
    → AllByRecursion IsProper gs → Ascends row_cmp (rows_left gs)
left_ascends [] r a = tt
left_ascends (c ∷ gs) r a =
    ascends_append row_cmp (map (row c.group) c.left) (rows_left gs)
    (rows_of_group c.group c.left a.0.left) (left_ascends gs r.1 a.1) (each c.left)
  where
    each : (ps : List Pid)
        → AllByRecursion (λ x. AllByRecursion (λ y. is_gt (row_cmp x y) ≡ false) (rows_left gs))
        (map (row c.group) ps)
    each [] = tt
    each (p ∷ ps) = (before c.group p gs r.0, each ps)

module _ (t : Table) (p : Pid) (own_one : t.own ≡ p.node) (gs : List GroupChange)
    (d : IsDifference (count_of t) (count_after_exit t p) gs) where
  -- the rows of the process leave, and no others
  exit_counts : (r : Row) → occurrences same_row r (rows_left gs)
      ≡ cond (same_pid r.pid p) (local_count t r.group r.pid) 0
  exit_counts r = left_occurs r gs ∙ d.left r.group r.pid
      ∙ grind (arith, same_pid_decides r.pid p, same_decides r.pid.node t.own, own_one)

  pub few_left : (most : ℕ) → local_total t ≤ most → length (rows_left gs) ≤ most
  few_left most few = (let within = few_rows t (rows_left gs) (λ r. grind (arith, exit_counts r)) in
      omega arith)

-- they are the policy's rows of the process
pub left_are : (h : History) (r : Running) → IsRunningOf (scope_words h) r → IsPlayed h → (p : Pid)
    → r.table.own ≡ p.node → (gs : List GroupChange)
    → IsDifference (count_of r.table) (count_after_exit r.table p) gs
    → rows_left gs ≡ filter (λ w. same_pid w.pid p) (local_rows h r.scope)
left_are h r t legal p own_one gs d = exit_listing h r.scope p (rows_left gs) (record {
  ascends = left_ascends gs d.groups d.proper;
  counts = λ x. exit_counts r.table p own_one gs d x
      ∙ ap (λ f. cond (same_pid x.pid p) (f x.group x.pid) 0) (own_counts h r.scope r refl t legal);
})
