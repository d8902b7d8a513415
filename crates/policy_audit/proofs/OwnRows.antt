-- The own rows are listed, and nobody else's are; and the rows that an own Join, Leave, Exit and
-- Sync name.
use Rattle.policy_audit.proofs
use proofs.Words.{Accepted, ap, arith, Ascends, Bool, cond, Entry, Event, events, exact_rows, false}
use proofs.Words.{filter, groups_named, History, is_gt, is_local, IsListing, IsPidListing, IsPlayed}
use proofs.Words.{IsPlayedIn, IsRowListing, joined, judgement, List, listed, local_groups}
use proofs.Words.{local_members, local_rows, map, None, occurrences, one_listing, Opening, Option}
use proofs.Words.{Ordering, own, past, Pid, pids_named, present_link, refl, Row, row, row_cmp}
use proofs.Words.{rows_total, same, same_decides, same_pid, same_pid_decides, same_row}
use proofs.Words.{same_row_decides, same_sym, so_far, Some, stands_in, sym, true, Verdict}
use proofs.Words.{ℕ, [], ◌<◌, ◌∷◌, ◌≡◌, ◌∙◌}
use proofs.Accepted.{accepted, all_hold, lie, unbroken}
use proofs.Walked.{but}
use proofs.UpLinks.{agrees}
use proofs.Named.{group_named, own_named, pid_named}
use proofs.Lists.{count_in_group, filter_all, groups_are, members_are, rows_are, rows_of_group}
use proofs.RowsAfter.{uncounted}
use proofs.Foreign.{peer_foreign}

-- ---- the own rows

-- no link is to the node itself
pub no_own_link : (h : History) → IsPlayed h → present_link h.opening.name h.entries ≡ None
no_own_link h legal = by (present_link h.opening.name h.entries) refl
  where
    by : (x : Option ℕ) → present_link h.opening.name h.entries ≡ x → x ≡ None
    by None q = refl
    by (Some l) q =
        lie (sym ((same_decides h.opening.name h.opening.name).1 refl)
        ∙ peer_foreign h legal l h.opening.name
        ((agrees _ _ legal h.opening.name l).0 q).1)

-- nobody is joined but the processes of this node and its present creation
unjoined : (o : Opening) (es : List Entry) → IsPlayedIn o es → (s g : List ℕ) (p : Pid)
    → is_local (past o es) p ≡ false → joined s g p (events es) ≡ 0
unjoined o [] legal s g p foreign = refl
unjoined o (e ∷ es) legal s g p foreign =
    by_event e.event e.verdict legal.0.judged (unjoined o es legal.1 s g p) foreign
  where
    by_event : (ev : Event) (v : Verdict) → v ≡ judgement (past o es) e.seat ev
        → (is_local (past o es) p ≡ false → joined s g p (events es) ≡ 0)
        → is_local (past o (but e ev v ∷ es)) p ≡ false
        → joined s g p (events (but e ev v ∷ es)) ≡ 0
    by_event (Event.Join t u ps) (Accepted r) q so_far f =
        grind (arith, unbroken, all_hold, accepted, uncounted, same_pid_decides)
    by_event ev v _ so_far f = grind arith

pub foreign_own : (h : History) → IsPlayed h → (s g : List ℕ) (p : Pid) → is_local h p ≡ false
    → own h s g p ≡ 0
foreign_own h legal s g p foreign = grind (arith, unjoined h.opening h.entries legal s g p foreign)

pub own_is_listed : (h : History) → IsPlayed h → (s g : List ℕ) (p : Pid)
    → own h s g p ≡ cond (same p.node h.opening.name) (listed h s g p) 0
own_is_listed h legal s g p =
    grind (
      arith,
      foreign_own h legal s g p,
      same_decides p.node h.opening.name,
      no_own_link h legal,
    )

-- ---- lists of rows

-- there is one listing of rows
pub one_row_listing : (count : List ℕ → Pid → ℕ) (xs ys : List Row) → IsRowListing count xs
    → IsRowListing count ys → xs ≡ ys
one_row_listing count xs ys a b =
    one_listing row_cmp same_row rows_total exact_rows same_row_decides (λ r. count r.group r.pid)
    xs ys a b

-- the rows of one group
pub rows_in_group : (g : List ℕ) (count : Pid → ℕ) (ps : List Pid) → IsPidListing count ps
    → IsRowListing (λ f q. cond (same f g) (count q) 0) (map (row g) ps)
rows_in_group g count ps a = grind (arith, rows_of_group, count_in_group, same_sym)

filter_ascends : {A : Type 0} (R : A → A → Ordering) (test : A → Bool) (xs : List A) → Ascends R xs
    → Ascends R (filter test xs)
filter_ascends R test [] a = tt
filter_ascends R test (x ∷ xs) a =
    grind (arith, filter_all (λ y. is_gt (R x y) ≡ false) test xs a.0, filter_ascends R test xs a.1)

-- how often a row stands in what a test leaves
filter_counts : (test : Row → Bool) (r : Row) (xs : List Row)
    → occurrences same_row r (filter test xs) ≡ cond (test r) (occurrences same_row r xs) 0
filter_counts test r [] = grind arith
filter_counts test r (x ∷ xs) = grind (arith, filter_counts test r xs, same_row_decides x r)

-- ---- what is told of own rows

-- all own rows
pub local_rows_are : (h : History) (s : List ℕ) → IsRowListing (own h s) (local_rows h s)
local_rows_are h s =
    rows_are (own h s) (local_members h s) (λ g. members_are (own h s) pids named pid_is group_is g)
    (local_groups h s) (groups_are (own h s) pids named pid_is group_is)
  where
    pids : List ℕ → List Pid
    pids f = pids_named s f (events h.entries)

    named : List (List ℕ)
    named = groups_named s (events h.entries)

    pid_is : (g : List ℕ) (p : Pid) → 0 < own h s g p
        → stands_in same_pid p (pids_named s g (events h.entries)) ≡ true
    pid_is g p q = pid_named s g p (events h.entries) (own_named s g p h q)

    group_is : (g : List ℕ) (p : Pid) → 0 < own h s g p
        → stands_in same g (groups_named s (events h.entries)) ≡ true
    group_is g p q = group_named s g p (events h.entries) (own_named s g p h q)

-- the rows of a Sync
pub sync_listing : (h : History) (s : List ℕ) (rows : List Row) → IsRowListing (own h s) rows
    → rows ≡ local_rows h s
sync_listing h s rows a = one_row_listing (own h s) rows (local_rows h s) a (local_rows_are h s)

-- the rows of the end of a process
pub exit_listing : (h : History) (s : List ℕ) (p : Pid) (rows : List Row)
    → IsRowListing (λ f q. cond (same_pid q p) (own h s f q) 0) rows
    → rows ≡ filter (λ w. same_pid w.pid p) (local_rows h s)
exit_listing h s p rows a =
    one_row_listing (λ f q. cond (same_pid q p) (own h s f q) 0) rows
    (filter (λ w. same_pid w.pid p) (local_rows h s)) a (record {
      ascends = filter_ascends row_cmp (λ w. same_pid w.pid p) (local_rows h s)
          (IsListing.ascends (local_rows_are h s));
      counts = λ r. filter_counts (λ w. same_pid w.pid p) r (local_rows h s)
          ∙ ap (λ n. cond (same_pid r.pid p) n 0) (IsListing.counts (local_rows_are h s) r);
    })
