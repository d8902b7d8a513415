-- The messages that a node may say are within the grammar, and their rows are its own.
use Rattle.frame_laws.proofs
use proofs.Words.{Accepted, AllByRecursion, arith, Bool, cond, count_in_group, Event, exact_pids}
use proofs.Words.{false, few, few_local, fewer_length, filter, filter_all, foreign_own, History}
use proofs.Words.{is_empty, is_local, is_running, is_whole, IsListing, IsNode, IsRow, IsRowListing}
use proofs.Words.{IsText, judgement, length, length-map, limit, link_version, List, list_all}
use proofs.Words.{listing, listing_counts, lives, local_rows, local_rows_are, map, mentions}
use proofs.Words.{Message, min, occurrences, occurs_stands, old_limit, own, own_limit, Pid, pid_cmp}
use proofs.Words.{pids_total, refl, Reply, Row, row, rows_in_group, same, same_decides, same_pid}
use proofs.Words.{same_pid_decides, same_row, same_row_decides, same_sym, told, true, uncounted, ℕ}
use proofs.Words.{[], ◌+◌, ◌<◌, ◌∷◌, ◌≡◌, ◌≤◌, all_hold, first_broken, message_checks, Message2}
use proofs.Words.{None, unbroken}
use proofs.OwnLimits.{scope_text, all_counted, living_row, own_row, own_rows}
use proofs.Sayable.{IsSayable, join_sayable, leave_sayable, sync_sayable}

-- ---- rows that join and leave

some_rows : (rows : List Row) → is_empty rows ≡ false → 0 < length rows
some_rows [] q = cc
some_rows (r ∷ rows) q = omega arith

length_filter : (test : Row → Bool) (rows : List Row) → length (filter test rows) ≤ length rows
length_filter test [] = omega arith
length_filter test (r ∷ rows) = grind (arith, length_filter test rows)

-- each as often as it is counted, in one group
pub group_listing : (g : List ℕ) (count : Pid → ℕ) (ps : List Pid)
    → ((p : Pid) → 0 < count p → 0 < mentions p ps) → IsRowListing (λ f q. cond (same f g) (count q)
    0) (map (row g) (listing pid_cmp count ps))
group_listing g count ps named = rows_in_group g count (listing pid_cmp count ps)
    (listing_counts pid_cmp same_pid pids_total exact_pids same_pid_decides count ps
    (λ p some. occurs_stands same_pid p ps (named p some)))

module _ (h : History) (node : IsNode h) where
  abbrev AreLocal : List Row → Type 0
  AreLocal rows = list_all (λ r. is_local h r.pid) rows ≡ true

  -- what the rules of an accepted Join say
  pub record JoinMet (s : List ℕ) (ps : List Pid) : Type 0 where
    pub runs : is_running h s ≡ true
    pub alive : list_all (lives h) ps ≡ true
    pub room : length (local_rows h s) + length ps ≤ own_limit h s

  pub join_met : (seat : ℕ) (s g : List ℕ) (ps : List Pid) (r : Reply)
      → Accepted r ≡ judgement h seat (Event.Join s g ps) → JoinMet s ps
  join_met = grind arith

  abbrev pub join_rows : List ℕ → List Pid → List Row
  join_rows g ps = map (row g) (listing pid_cmp (λ p. mentions p ps) ps)

  abbrev pub leave_rows : List ℕ → List ℕ → List Pid → List Row
  leave_rows s g ps = map (row g) (listing pid_cmp (λ p. min (mentions p ps) (own h s g p)) ps)

  abbrev pub exit_rows : List ℕ → Pid → List Row
  exit_rows s p = filter (λ w. same_pid w.pid p) (local_rows h s)

  pub join_listing : (g : List ℕ) (ps : List Pid)
      → IsRowListing (λ f q. cond (same f g) (mentions q ps) 0) (join_rows g ps)
  join_listing = grind (arith, group_listing)

  pub leave_listing : (s g : List ℕ) (ps : List Pid)
      → IsRowListing (λ f q. cond (same f g) (min (mentions q ps) (own h s g q)) 0)
      (leave_rows s g ps)
  leave_listing = grind (arith, group_listing)

  pub join_few : (g : List ℕ) (ps : List Pid) → length (join_rows g ps) ≤ length ps
  join_few g ps =
      let all = fewer_length same_row same_row_decides (join_rows g ps) (map (row g) ps)
      (λ r. grind (arith, IsListing.counts (join_listing g ps) r, count_in_group, same_sym)) in
      omega (arith, length-map ps (row g))

  pub join_each : (g : List ℕ) (ps : List Pid) → IsText g → list_all (lives h) ps ≡ true
      → AllByRecursion IsRow (join_rows g ps)
  join_each g ps text alive = all_counted IsRow (join_rows g ps) each
    where
      each : (r : Row) → 0 < occurrences same_row r (join_rows g ps) → IsRow r
      each = grind (arith, join_listing, living_row, same_decides, uncounted)

  leave_within : (s g : List ℕ) (ps : List Pid) (r : Row)
      → occurrences same_row r (leave_rows s g ps) ≤ own h s r.group r.pid
  leave_within s g ps r = grind (arith, IsListing.counts (leave_listing s g ps) r, same_decides)

  pub leave_few : (s g : List ℕ) (ps : List Pid)
      → length (leave_rows s g ps) ≤ length (local_rows h s)
  leave_few s g ps = few h s (leave_rows s g ps) (leave_within s g ps)

  pub leave_each : (s g : List ℕ) (ps : List Pid) → AllByRecursion IsRow (leave_rows s g ps)
  leave_each = grind (arith, all_counted, own_row, leave_within)

  pub exit_few : (s : List ℕ) (p : Pid) → length (exit_rows s p) ≤ length (local_rows h s)
  exit_few = grind (arith, length_filter)

  pub exit_each : (s : List ℕ) (p : Pid) → AllByRecursion IsRow (exit_rows s p)
  exit_each s = grind (arith, filter_all, own_rows h node s)

  -- ---- messages

  -- a scope for whose rows a peer may ask
  pub asked_text : (l : ℕ) (s : List ℕ)
      → first_broken (message_checks h l (Message2.Discover s)) ≡ None → IsText s
  asked_text = grind (arith, scope_text, unbroken, all_hold)

  module _ (l v : ℕ)
      (agrees : is_whole l h.entries ≡ true → link_version h.opening l h.entries ≡ v) where
    -- to a peer that is told all own rows can be said
    pub told_room : (s : List ℕ) → told h.opening l s h.entries ≡ true → own_limit h s ≤ limit v
    told_room s = grind (arith, old_limit h.opening h.entries l s)

    pub own_room : (s : List ℕ) → told h.opening l s h.entries ≡ true
        → length (local_rows h s) ≤ limit v
    own_room s tells = omega (arith, few_local h node.legal s, told_room s tells)

    -- and so can they to one that asks
    pub asked_room : is_whole l h.entries ≡ true → (s : List ℕ)
        → first_broken (message_checks h l (Message2.Discover s)) ≡ None
        → length (local_rows h s) ≤ limit v
    asked_room whole s = grind (arith, few_local h node.legal s)

    pub join_is : (s g : List ℕ) (ps : List Pid) → IsText s → IsText g
        → list_all (lives h) ps ≡ true → length (local_rows h s) + length ps ≤ own_limit h s
        → told h.opening l s h.entries ≡ true → is_empty (join_rows g ps) ≡ false
        → IsSayable v (Message.Join s (join_rows g ps))
    join_is = grind (arith, join_sayable, join_each, join_few, told_room)

    pub leave_is : (s g : List ℕ) (ps : List Pid) → IsText s
        → told h.opening l s h.entries ≡ true → is_empty (leave_rows s g ps) ≡ false
        → IsSayable v (Message.Leave s (leave_rows s g ps))
    leave_is s g ps scope tells some =
        leave_sayable v s scope (leave_rows s g ps) (leave_each s g ps)
        (omega (arith, leave_few s g ps, own_room s tells))
        (some_rows (leave_rows s g ps) some)

    pub exit_is : (s : List ℕ) (p : Pid) → IsText s → told h.opening l s h.entries ≡ true
        → is_empty (exit_rows s p) ≡ false → IsSayable v (Message.Leave s (exit_rows s p))
    exit_is s p scope tells some =
        leave_sayable v s scope (exit_rows s p) (exit_each s p)
        (omega (arith, exit_few s p, own_room s tells))
        (some_rows (exit_rows s p) some)

    pub sync_is : is_whole l h.entries ≡ true → (s : List ℕ)
        → first_broken (message_checks h l (Message2.Discover s)) ≡ None
        → IsSayable v (Message.Sync s (local_rows h s))
    sync_is whole s met = sync_sayable v s (asked_text l s met) (local_rows h s)
        (own_rows h node s) (asked_room whole s met)

  -- ---- their rows are own

  all_own : (rows : List Row) → ((r : Row) → 0 < occurrences same_row r rows
      → is_local h r.pid ≡ true) → AreLocal rows
  all_own [] each = refl
  all_own (r ∷ rows) each = grind (arith, same_row_decides, all_own rows)

  own_is_local : (s g : List ℕ) (p : Pid) → 0 < own h s g p → is_local h p ≡ true
  own_is_local = grind (arith, foreign_own)

  pub sync_own : (s : List ℕ) → AreLocal (local_rows h s)
  sync_own s = grind (arith, all_own, own_is_local, local_rows_are h s)

  pub exit_own : (s : List ℕ) (p : Pid) → AreLocal (exit_rows s p)
  exit_own s p = filtered (local_rows h s) (sync_own s)
    where
      filtered : (rows : List Row) → AreLocal rows
          → AreLocal (filter (λ w. same_pid w.pid p) rows)
      filtered [] all = refl
      filtered (r ∷ rows) all = grind (arith, filtered rows)

  pub leave_own : (s g : List ℕ) (ps : List Pid)
      → AreLocal (leave_rows s g ps)
  leave_own = grind (arith, all_own, own_is_local, leave_within)

  pub join_own : (g : List ℕ) (ps : List Pid) → list_all (lives h) ps ≡ true
      → AreLocal (join_rows g ps)
  join_own = grind (arith, all_own, join_listing, uncounted, same_pid_decides)
