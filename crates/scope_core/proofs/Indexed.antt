-- The nodes of each group, and the rows.
use Rattle.scope_core.proofs
use proofs.Words
use Words.{AllByRecursion, arith, Bool, cond, Counted, Covers, Err, false, get_or, GroupChange}
use Words.{has_members, how_many, how_many_append, is_eq, is_named, is_of_node, is_row, is_some}
use Words.{is_there, IsDifference, Joins, length, Less, List, list_any, lookup, mentions, nat_lt}
use Words.{not, of_node, Ok, OnOk, Pid, refl, Result, Rises, Row, same, same_decides}
use Words.{same_pid_decides, same_sym, subst, suc, take, take_more, tally, Tells, text_cmp, true}
use Words.{without_node, zero, [], ℕ, ◌&&◌, ◌+◌, ◌<◌, ◌∙◌, ◌∷◌, ◌≡◌, ◌≤◌}
use proofs.NodeLists.{lone_row, node_tally}
use proofs.HashedRows.{one_text}
use proofs.Unnamed.{named_moves, row_there, some_row}
use proofs.Rising.{tally_all, tally_none}
use Rattle.std.specs.Result.{OnErr}

pub named_part : (g : List ℕ) (i : ℕ) (cs : List GroupChange) → is_named g (take i cs) ≡ true
    → is_named g cs ≡ true
named_part g zero cs e = grind arith
named_part g (suc i) [] e = e
named_part g (suc i) (x ∷ cs) e = grind (arith, named_part g i cs)

there_of_node : (g n : List ℕ) (r : Row) → is_of_node n r ≡ false → is_there g n r ≡ false
there_of_node g n r e = grind arith

-- where a growth is refused, some of them are put in
pub put_some : (changes : List GroupChange) (i : ℕ) (node : List ℕ)
    (first old new : List ℕ → List ℕ → ℕ)
    → ((g n : List ℕ) → old g n ≡ cond (same node n && is_named g (take i changes)) 1 (first g n))
    → ((g n : List ℕ) → new g n ≡ old g n) → (g n : List ℕ) → (b : Bool)
    × (new g n ≡ cond (b && (same node n && is_named g changes)) 1 (first g n))
put_some changes i node first old new so_far same_still g n =
    (is_named g (take i changes), grind (arith, so_far g n, same_still g n, named_part))

module _ (changes : List GroupChange) (node : List ℕ) where
  -- what of them was put in is settled again
  pub unsettled : (rows : List Counted) (old mid new : List ℕ → List ℕ → ℕ)
      → ((g n : List ℕ) → old g n ≡ cond (has_members g n rows) 1 0) → ((g n : List ℕ) → (b : Bool)
      × (mid g n ≡ cond (b && (same node n && is_named g changes)) 1 (old g n))) → ((g n : List ℕ)
      → new g n ≡ cond ((is_named g changes && same node n) && not (has_members g n rows)) 0
      (mid g n)) → (g n : List ℕ) → new g n ≡ cond (has_members g n rows) 1 0
  unsettled rows old mid new was some settled g n = grind (arith, was g n, (some g n).1, settled)

  -- what changed is settled, and what didn't is as it was
  pub settled : (was now : List Counted) (old mid new : List ℕ → List ℕ → ℕ)
      → ((g n : List ℕ) → old g n ≡ cond (has_members g n was) 1 0)
      → ((g n : List ℕ) → mid g n ≡ cond (same node n && is_named g changes) 1 (old g n))
      → ((g n : List ℕ)
      → new g n ≡ cond ((is_named g changes && same node n) && not (has_members g n now)) 0
      (mid g n)) → Covers changes node was now → ((n : List ℕ) → same node n ≡ false → (g : List ℕ)
      → tally (is_there g n) now ≡ tally (is_there g n) was)
      → (g n : List ℕ) → new g n ≡ cond (has_members g n now) 1 0
  settled was now old mid new indexed put settle covers others g n =
      grind (arith, indexed g n, put g n, settle g n, covers g, others n, same_decides)

-- rows of a node aren't rows of another
pub not_there : (node g n : List ℕ) (rows : List Counted)
    → AllByRecursion (λ c. c.row.pid.node ≡ node) rows → same node n ≡ false
    → tally (is_there g n) rows ≡ 0
not_there node g n [] a e = refl
not_there node g n (c ∷ cs) a e = grind (arith, not_there node g n cs a.1 e)

pub joined_others : (node : List ℕ) (more old new : List Counted)
    → AllByRecursion (λ c. c.row.pid.node ≡ node) more → Joins more old new → (n : List ℕ)
    → same node n ≡ false → (g : List ℕ) → tally (is_there g n) new ≡ tally (is_there g n) old
joined_others node more old new own joins n e g = grind (arith, joins (is_there g n), not_there)

-- the same where a call answers whether it changed the rows
pub step_settled : {T E : Type 0} (r : Result T E) (changes : List GroupChange) (node : List ℕ)
    (was now : List Counted) (old mid new : List ℕ → List ℕ → ℕ)
    → ((g n : List ℕ) → old g n ≡ cond (has_members g n was) 1 0)
    → ((g n : List ℕ) → mid g n ≡ cond (same node n && is_named g changes) 1 (old g n))
    → ((g n : List ℕ)
    → new g n ≡ cond ((is_named g changes && same node n) && not (has_members g n now)) 0 (mid g n))
    → OnOk r (Covers changes node was now × ((n : List ℕ) → same node n ≡ false → (g : List ℕ)
    → tally (is_there g n) now ≡ tally (is_there g n) was)) → OnErr r (now ≡ was)
    → (g n : List ℕ) → new g n ≡ cond (has_members g n now) 1 0
step_settled (Ok x) changes node was now old mid new indexed put settle ok err =
    settled changes node was now old mid new indexed put settle ok.0 ok.1
step_settled (Err x) changes node was now old mid new indexed put settle ok err =
    grind (arith, unsettled)

-- where rows are told that come, the groups that are named have rows of the node
pub told_named : (n : List ℕ) (counted : List Counted) (changes : List GroupChange)
    → AllByRecursion (λ c. c.row.pid.node ≡ n) counted
    → IsDifference (λ g p. 0) (λ g p. tally (is_row g p) counted) changes
    → (g : List ℕ) → is_named g changes ≡ true → has_members g n counted ≡ true
told_named n counted changes own d g e =
    let moves = named_moves g changes d.proper e in
    let p = moves.0 in
    let some : 0 < tally (is_row g p) counted = omega (arith, d.left g p, d.joined g p) in
    let other = λ (h : same p.node n ≡ false). lone_row n g p h counted own in
    let mine : p.node ≡ n = grind (arith, same_decides) in
    let has : has_members g p.node counted ≡ true = grind (arith, row_there) in
    subst (λ m. has_members g m counted ≡ true) mine has

pub added_named : (n : List ℕ) (counted : List Counted) (changes : List GroupChange)
    → AllByRecursion (λ c. c.row.pid.node ≡ n) counted → Tells [] counted changes → (g : List ℕ)
    → is_named g changes ≡ true → has_members g n counted ≡ true
added_named n counted changes own told =
    told_named n counted changes own (told _ _ (λ g p. omega arith) (λ g p. omega arith))

-- so the groups of rows that came are as they are to be, once they are put in
pub joined_settled : (changes : List GroupChange) (node : List ℕ) (more was now : List Counted)
    (old mid : List ℕ → List ℕ → ℕ) → ((g n : List ℕ) → old g n ≡ cond (has_members g n was) 1 0)
    → ((g n : List ℕ) → mid g n ≡ cond (same node n && is_named g changes) 1 (old g n))
    → Covers changes node [] more
    → ((g : List ℕ) → is_named g changes ≡ true → has_members g node more ≡ true)
    → AllByRecursion (λ c. c.row.pid.node ≡ node) more → Joins more was now → (g n : List ℕ)
    → mid g n ≡ cond (has_members g n now) 1 0
joined_settled changes node more was now old mid indexed put covers named own joins g n =
    grind (arith, joined_others, same_decides)

-- a node's rows stand in the place of those that it had
module _ (node : List ℕ) (rows was now : List Counted)
    (joins : Joins rows (without_node node was) now) where
  none_left : (g : List ℕ) → tally (is_there g node) (without_node node was) ≡ 0
  none_left g = grind (arith, tally_none)

  pub covers_replaced : (changes : List GroupChange) → Covers changes node was rows
      → Covers changes node was now
  covers_replaced changes covers g e = grind (arith, none_left)

  pub replaced_others : AllByRecursion (λ c. c.row.pid.node ≡ node) rows → (n : List ℕ)
      → same node n ≡ false → (g : List ℕ) → tally (is_there g n) now ≡ tally (is_there g n) was
  replaced_others own n e g = grind (arith, tally_all, same_decides, not_there)

-- ---- a node that goes

-- where it is no group's any more in which it has processes
pub dropped : (node : List ℕ) (was list : List Counted) (old new : List ℕ → List ℕ → ℕ)
    → list ≡ of_node node was → ((g n : List ℕ) → old g n ≡ cond (has_members g n was) 1 0)
    → ((g n : List ℕ) → same node n ≡ false → new g n ≡ old g n)
    → ((g : List ℕ) → new g node ≤ cond (has_members g node list) 0 (old g node))
    → (g n : List ℕ) → new g n ≡ cond (has_members g n (without_node node was)) 1 0
dropped node was list old new is indexed others own g n =
    grind (arith, tally_none, tally_all, same_decides, node_tally, there_of_node)

-- a group that is found is one of the entries
pub got_named : {A : Type 0} (g : List ℕ) (es : List (List ℕ × A))
    → is_some (lookup (λ k. is_eq (text_cmp g k)) es) ≡ true → list_any (λ e. same e.0 g) es ≡ true
got_named g [] e = e
got_named g (x ∷ es) e = grind (arith, got_named g es, one_text, same_sym)

-- ---- the processes of a group

names_part : (n : List ℕ) (i : ℕ) (ns : List (List ℕ))
    → how_many (λ m. same m n) (take i ns) ≤ how_many (λ m. same m n) ns
names_part n zero ns = omega arith
names_part n (suc i) [] = omega arith
names_part n (suc i) (m ∷ ns) = grind (arith, names_part n i ns)

pub gather_more : (nodes : List (List ℕ)) (i : ℕ) (x : List ℕ) → i < length nodes
    → x ≡ get_or nodes i x → ((n : List ℕ) → how_many (λ m. same m n) nodes ≤ 1)
    → (g : List ℕ) (rows : List Counted) (old new : Pid → ℕ)
    → ((p : Pid) → old p ≡ cond (nat_lt 0 (how_many (λ m. same m p.node) (take i nodes)))
    (tally (is_row g p) rows) 0)
    → ((p : Pid) → new p ≡ old p + cond (same x p.node) (tally (is_row g p) rows) 0)
    → (p : Pid) → new p ≡ cond (nat_lt 0 (how_many (λ m. same m p.node) (take (i + 1) nodes)))
    (tally (is_row g p) rows) 0
gather_more nodes i x l at once g rows old new so_far next p =
    grind (arith, so_far p, next p, step, names_part p.node (i + 1) nodes, once p.node)
  where
    step : how_many (λ m. same m p.node) (take (i + 1) nodes)
        ≡ how_many (λ m. same m p.node) (take i nodes) + cond (same x p.node) 1 0
    step = simp (take_more nodes i x l, ← at)
        (how_many_append (λ m. same m p.node) (take i nodes) (x ∷ []) ∙ grind arith)

above_at : (m : List ℕ) (ns : List (List ℕ)) (i : ℕ) (x : List ℕ) → i < length ns
    → x ≡ get_or ns i x → AllByRecursion (λ n. text_cmp m n ≡ Less) ns → text_cmp m x ≡ Less
above_at m [] i x l at a = grind arith
above_at m (n ∷ ns) zero x l at a = grind arith
above_at m (n ∷ ns) (suc i) x l at a = above_at m ns i x (omega arith) at a.1

-- the names before one that rise are below it
below_at : (nodes : List (List ℕ)) (i : ℕ) (x : List ℕ) → i < length nodes → x ≡ get_or nodes i x
    → Rises text_cmp nodes → (n : List ℕ) → 0 < how_many (λ m. same m n) (take i nodes)
    → text_cmp n x ≡ Less
below_at nodes zero x l at r n some = grind arith
below_at [] (suc i) x l at r n some = absurd (omega arith)
below_at (m ∷ ns) (suc i) x l at r n some =
    let first = above_at m ns i x (omega arith) at r.0 in
    grind (arith, below_at ns i x (omega arith) at r.1 n, same_decides)

-- what holds of each process that is mentioned holds of all
all_mentioned : (P : Pid → Type 0) (ps : List Pid) → ((p : Pid) → 0 < mentions p ps → P p)
    → AllByRecursion P ps
all_mentioned P [] h = tt
all_mentioned P (q ∷ ps) h = (
  h q (grind (arith, same_pid_decides)),
  all_mentioned P ps (λ p l. h p (grind arith)),
)

-- the processes of the nodes before one are of names below it
pub all_below : (nodes : List (List ℕ)) (i : ℕ) (x : List ℕ) → i < length nodes
    → x ≡ get_or nodes i x → Rises text_cmp nodes → (g : List ℕ) (rows : List Counted)
    (ps : List Pid) → ((p : Pid) → mentions p ps
    ≡ cond (nat_lt 0 (how_many (λ m. same m p.node) (take i nodes))) (tally (is_row g p) rows) 0)
    → AllByRecursion (λ p. text_cmp p.node x ≡ Less) ps
all_below nodes i x l at r g rows ps counts = grind (arith, all_mentioned, below_at)

-- nobody is missing: where no node is named there is no row
pub all_gathered : (g : List ℕ) (p : Pid) (rows : List Counted) (named : ℕ)
    → named ≡ cond (has_members g p.node rows) 1 0
    → cond (nat_lt 0 named) (tally (is_row g p) rows) 0 ≡ tally (is_row g p) rows
all_gathered g p rows named is = grind (arith, row_there)

-- who a node's being named stands for
pub named_member : (g n : List ℕ) (rows : List Counted) (named : ℕ)
    → named ≡ cond (has_members g n rows) 1 0 → 0 < named → (p : Pid)
    × (0 < tally (is_row g p) rows)
named_member g n rows named is some = grind (arith, some_row)

pub member_named : (g : List ℕ) (p : Pid) (rows : List Counted) (named : ℕ)
    → named ≡ cond (has_members g p.node rows) 1 0 → 0 < tally (is_row g p) rows → 0 < named
member_named g p rows named is some = grind (arith, row_there)
