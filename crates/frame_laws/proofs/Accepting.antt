-- Where a peer is heard, its scope runs, its link is up and visible; and what it may say is
-- accepted.
use Rattle.frame_laws.proofs
use proofs.Words.{Accepted, agrees, AreFrom, AreStated, arith, Bool, but, cond, Entry, eqb-true}
use proofs.Words.{Event, events, false, fewer_length, filter, filter-append, first_broken, flat_map}
use proofs.Words.{Frame, frame_taken, fresh, group_named, groups, groups_are, groups_named}
use proofs.Words.{has_sync, HasRoom, heard, heard_runs, History, how_many_append, is_accepted}
use proofs.Words.{is_from, is_full, is_local, is_peer, is_running, is_up, is_visible, is_whole}
use proofs.Words.{IsPlayed, IsPlayedIn, IsRowListing, judgement, kept_peers, le-leb, length}
use proofs.Words.{length-append, List, list_all, list_all-append, listed, listed_named, map, MaySay}
use proofs.Words.{members, members_are, Message2, message_checks, nat_le, None, occurrences, opened}
use proofs.Words.{Opening, Part, PartKind, past, peer_foreign, peer_limit, peer_of, peer_rows, Pid}
use proofs.Words.{pid_named, pids_named, present_link, refl, Reply, Row, row, rows_are, rows_of}
use proofs.Words.{said_at, same, same_decides, same_pid, same_row, same_row_decides, scope_in}
use proofs.Words.{so_far, Some, stands_in, stated, taken, talk, talk_of, true, Verdict, verdict}
use proofs.Words.{whole_awaits, ℕ, [], ◌&&◌, ◌++◌, ◌+◌, ◌<◌, ◌==◌, ◌∷◌, ◌≡◌, ◌≤◌}

-- ---- a peer that is heard is visible

module _ (o : Opening) (s : List ℕ) where
  module _ (es : List Entry) (e : Entry) (legal : IsPlayedIn o es) (fresh_is : opened e.number es
      ≡ None)
      (l : ℕ) where
    abbrev Before : Type 0
    Before = has_sync s (talk o l es) ≡ true → is_visible (past o es) l ≡ true

    framed : (k : ℕ) (body : List ℕ) (r : Reply)
        → Accepted r ≡ judgement (past o es) e.seat (Frame k body) → Before → (b : Bool)
        → (k == l) ≡ b
        → has_sync s (cond (b && is_whole l es) (talk_of (said_at o l es body)) [] ++ talk o l
        es) ≡ true → is_whole l es ≡ true → is_visible (past o es) l ≡ true
    framed k body r q so_far false other said w = so_far said
    framed k body r q so_far true is said w =
        grind (arith, eqb-true k l is, whole_awaits (opened l es) (taken l es) w)

    shown_after : (k : ℕ) (body : List ℕ) (r : Reply) (b : Bool) → (k == l) ≡ b
        → is_whole l es ≡ true → is_visible (past o es) l ≡ true
        → is_visible (past o (but e (Frame k body) (Accepted r) ∷ es)) l ≡ true
    shown_after = grind arith

    by_event : (ev : Event) (v : Verdict) → v ≡ judgement (past o es) e.seat ev → Before
        → has_sync s (talk o l (but e ev v ∷ es)) ≡ true
        → is_visible (past o (but e ev v ∷ es)) l ≡ true
    by_event (Frame k body) (Accepted r) q so_far said = by (is_whole l es) refl
      where
        by : (w : Bool) → is_whole l es ≡ w
            → is_visible (past o (but e (Frame k body) (Accepted r) ∷ es)) l ≡ true
        by true w = shown_after k body r (k == l) refl w
            (framed k body r q so_far (k == l) refl said w)
        by false un = grind arith
    by_event ev w q so_far said = grind arith

  heard_visible : (es : List Entry) → IsPlayedIn o es → (l : ℕ) → has_sync s (talk o l es) ≡ true
      → is_visible (past o es) l ≡ true
  heard_visible [] legal l q = cc
  heard_visible (e ∷ es) legal l q =
      by_event es e legal.1 (fresh o es legal.1 e legal.0) l e.event e.verdict
      legal.0.judged (heard_visible es legal.1 l) q

-- ---- what is listed of a peer that is heard

module _ (h : History) (legal : IsPlayed h) (l : ℕ) (s : List ℕ)
    (hears : heard h.opening l s h.entries ≡ true) where
  abbrev es : List Entry
  es = h.entries

  said : has_sync s (talk h.opening l es) ≡ true
  said = grind arith

  pub is_up_there : is_up l es ≡ true
  is_up_there = grind arith

  pub shows : is_visible h l ≡ true
  shows = heard_visible h.opening s es legal l said

  pub scope_runs : is_running h s ≡ true
  scope_runs = heard_runs h.opening es legal l s said

  -- a process of the peer isn't the node's own, and its present link is this one
  module _ (p : Pid) (its : is_peer p.node l es ≡ true) where
    peer_is : peer_of l es ≡ Some p.node
    peer_is = grind (arith, same_decides)

    not_own : is_local h p ≡ false
    not_own = grind (arith, peer_foreign h legal l p.node peer_is)

    present_is : present_link p.node es ≡ Some l
    present_is = grind (arith, agrees, peer_is)

    pub listed_is : (g : List ℕ)
        → listed h s g p ≡ cond (is_from l es p) (stated h.opening l s g p es) 0
    listed_is = grind (arith, not_own, scope_runs, present_is, shows)

  listed_from : (g : List ℕ) (p : Pid) → is_from l es p ≡ true
      → listed h s g p ≡ stated h.opening l s g p es
  listed_from = grind (arith, listed_is)

  -- a Leave's rows are listed
  are_listed : (rows : List Row) → AreStated h l s rows → (some : List Row)
      → list_all (λ r. is_from l es r.pid) some ≡ true
      → list_all (λ r. nat_le (rows_of r.group r.pid rows) (listed h s r.group r.pid)) some ≡ true
  are_listed rows within [] from = refl
  are_listed rows within (r ∷ some) from = grind (arith, listed_from, are_listed rows within some)

  -- ---- how many rows of the peer are listed

  abbrev of_peer : Row → Bool
  of_peer r = is_peer r.pid.node l es

  abbrev rows_in_groups : List (List ℕ) → List Row
  rows_in_groups gs = flat_map (λ g. map (row g) (members h s g)) gs

  rows_listed : IsRowListing (listed h s) (rows_in_groups (groups h s))
  rows_listed = rows_are (listed h s) (members h s)
      (members_are (listed h s) pids named pid_is group_is)
      (groups h s) (groups_are (listed h s) pids named pid_is group_is)
    where
      pids : List ℕ → List Pid
      pids f = pids_named s f (events h.entries)

      named : List (List ℕ)
      named = groups_named s (events h.entries)

      pid_is : (g : List ℕ) (p : Pid) → 0 < listed h s g p
          → stands_in same_pid p (pids_named s g (events h.entries)) ≡ true
      pid_is g p q = pid_named s g p (events h.entries) (listed_named s g p h q)

      group_is : (g : List ℕ) (p : Pid) → 0 < listed h s g p
          → stands_in same g (groups_named s (events h.entries)) ≡ true
      group_is g p q = group_named s g p (events h.entries) (listed_named s g p h q)

  peer_counts : (r : Row) (rows : List Row) → occurrences same_row r (filter of_peer rows) ≡ cond
      (of_peer r) (occurrences same_row r rows) 0
  peer_counts r [] = grind arith
  peer_counts r (x ∷ rows) = grind (arith, peer_counts r rows, same_row_decides)

  group_length : (g : List ℕ) (ps : List Pid)
      → length (filter of_peer (map (row g) ps)) ≡ length (filter (λ p. is_peer p.node l es) ps)
  group_length g [] = refl
  group_length g (p ∷ ps) = grind (arith, group_length g ps)

  peer_length : (gs : List (List ℕ)) → length (filter of_peer (rows_in_groups gs)) ≡ length (filter
      (λ p. is_peer p.node l es) (flat_map (members h s) gs))
  peer_length [] = refl
  peer_length (g ∷ gs) = grind (arith, filter-append, length-append, group_length, peer_length gs)

  stated_most : (r : Row) (b : Bool) → of_peer r ≡ b → (c : Bool) → is_from l es r.pid ≡ c
      → cond (of_peer r) (listed h s r.group r.pid) 0 ≤ stated h.opening l s r.group r.pid es
  stated_most r true its true from = grind (arith, listed_from)
  stated_most r true its false other = grind (arith, listed_is)
  stated_most r false other c from = grind arith

  has_room : (rows : List Row) → HasRoom h l s rows
      → nat_le (peer_rows h l s + length rows) (peer_limit h l) ≡ true
  has_room rows it =
      let fewer = fewer_length same_row same_row_decides
      (filter of_peer (rows_in_groups (groups h s)) ++ rows) it.all within in
      let both = length-append (filter of_peer (rows_in_groups (groups h s))) rows in
      let long = peer_length (groups h s) in
      let room = it.room in
      le-leb (peer_rows h l s + length rows) (peer_limit h l)
      (omega arith)
    where
      within : (r : Row) → occurrences same_row r (filter of_peer (rows_in_groups (groups h s))
          ++ rows) ≤ occurrences same_row r it.all
      within = grind (arith, how_many_append, peer_counts, rows_listed, stated_most)

-- ---- what it may say breaks no rule

module _ (h : History) (legal : IsPlayed h) (l : ℕ) where
  so_far_from : (kind : PartKind) (s : List ℕ) (number : ℕ) (rows : List Row) → AreFrom h l rows
      → AreFrom h l (so_far h l kind s number rows)
  so_far_from = grind (arith, list_all-append, kept_peers h.opening h.entries legal l)

  pub sync_met : (s : List ℕ) → is_visible h l ≡ true → is_running h s ≡ true
      → (number : ℕ) (last : Bool) (rows : List Row)
      → MaySay h l (Part PartKind.Sync s number last rows)
      → first_broken (message_checks h l (Part PartKind.Sync s number last rows)) ≡ None
  sync_met = grind arith

  pub heard_met : (m : Message2) → heard h.opening l (scope_in m) h.entries ≡ true → MaySay h l m
      → first_broken (message_checks h l m) ≡ None
  heard_met (Message2.Discover s) hears may =
      grind (arith, shows h legal l s hears, scope_runs h legal l s hears)
  heard_met (Message2.Down s) hears may =
      grind (arith, shows h legal l s hears, scope_runs h legal l s hears)
  heard_met (Part PartKind.Sync s number last rows) hears may =
      sync_met s (shows h legal l s hears) (scope_runs h legal l s hears) number last rows may
  heard_met (Part PartKind.Join s number last rows) hears may =
      grind (
        arith,
        shows h legal l s hears,
        scope_runs h legal l s hears,
        has_room h legal l s hears (so_far h l PartKind.Join s number rows) may.2,
      )
  heard_met (Part PartKind.Leave s number last rows) hears may =
      grind (
        arith,
        shows h legal l s hears,
        scope_runs h legal l s hears,
        are_listed h legal l s hears,
        so_far_from PartKind.Leave s number rows may.1,
      )

  -- what meets the rules of messages is accepted on a link that is up
  pub admits : is_up l h.entries ≡ true → (seat : ℕ) (body : List ℕ) (m : Message2)
      → frame_taken h.opening l h.entries body ≡ Some m
      → first_broken (message_checks h l m) ≡ None
      → is_accepted (judgement h seat (Frame l body)) ≡ true
  admits up_there seat body m says met = grind arith

  pub accepts : (seat : ℕ) (body : List ℕ) (m : Message2) → is_full h ≡ false
      → frame_taken h.opening l h.entries body ≡ Some m
      → heard h.opening l (scope_in m) h.entries ≡ true → MaySay h l m
      → is_accepted (verdict h seat (Frame l body)) ≡ true
  accepts seat body m room says hears may =
      grind (
        arith,
        admits (is_up_there h legal l (scope_in m) hears) seat body m says (heard_met m hears may),
      )
