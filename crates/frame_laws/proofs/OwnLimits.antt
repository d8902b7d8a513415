-- Own rows and running scopes are within the limits of messages.
use Rattle.frame_laws.proofs
use proofs.Words.{Accepted, AllByRecursion, arith, Bool, but, cond, creation, entered, Entry, Event}
use proofs.Words.{events, foreign_own, History, is_among, is_local, is_running, IsNode, IsPlayedIn}
use proofs.Words.{IsRow, IsText, IsWritten, joined, judgement, leb-true, List, list_all, lives}
use proofs.Words.{local_rows, local_rows_are, mentions, occurrences, Opening, own, past, Pid, refl}
use proofs.Words.{Refused, Reply, Row, row, running_among, running_scopes, same, same_decides}
use proofs.Words.{same_pid_decides, same_row, same_row_decides, spawned, true, uncounted, Verdict}
use proofs.Words.{ℕ, [], ◌&&◌, ◌+◌, ◌<◌, ◌^◌, ◌∷◌, ◌≡◌, ◌≤◌}

-- ---- lists

-- what holds of each row that stands in a list
pub all_counted : (P : Row → Type 0) (rows : List Row)
    → ((r : Row) → 0 < occurrences same_row r rows → P r) → AllByRecursion P rows
all_counted P [] each = tt
all_counted P (r ∷ rows) each = grind (arith, same_row_decides, all_counted P rows)

-- what holds of each scope that is among these
pub all_among : (P : List ℕ → Type 0) (ss : List (List ℕ))
    → ((s : List ℕ) → is_among s ss ≡ true → P s) → AllByRecursion P ss
all_among P [] each = tt
all_among P (s ∷ ss) each = grind (arith, same_decides, all_among P ss)

-- ---- along a history

abbrev AllWritten : List Entry → Type 0
AllWritten es = AllByRecursion (λ e. IsWritten e.event) es

module _ (o : Opening) where
  -- a scope that runs was started
  runs_text : (es : List Entry) → AllWritten es → (s : List ℕ) → is_running (past o es) s ≡ true
      → IsText s
  runs_text [] written s q = cc
  runs_text (e ∷ es) written s q = grind (arith, runs_text es written.1 s, same_decides)

  -- the group is a text, and the process was spawned
  record IsJoined (es : List Entry) (g : List ℕ) (p : Pid) : Type 0 where
    text : IsText g
    number : p.number ≤ spawned (past o es)

  module _ (es : List Entry) (e : Entry) (s g : List ℕ) (p : Pid) where
    abbrev Before : Type 0
    Before = 0 < joined s g p (events es) → IsJoined es g p

    abbrev After : Event → Verdict → Type 0
    After ev v = 0 < joined s g p (events (but e ev v ∷ es)) → IsJoined (but e ev v ∷ es) g p

    mentioned : (t f : List ℕ) (ps : List Pid) (r : Reply) → list_all (lives (past o es)) ps ≡ true
        → IsText f → same f g ≡ true → Before → 0 < joined s g p (events es) + mentions p ps
        → (b : Bool) → lives (past o es) p ≡ b
        → IsJoined (but e (Event.Join t f ps) (Accepted r) ∷ es) g p
    mentioned = grind (arith, same_decides, uncounted, same_pid_decides)

    joins : (t f : List ℕ) (ps : List Pid) (r : Reply) → list_all (lives (past o es)) ps ≡ true
        → IsText f → Before
        → (b c : Bool) → same t s ≡ b → same f g ≡ c
        → 0 < cond (b && c) (joined s g p (events es) + mentions p ps) (joined s g p (events es))
        → IsJoined (but e (Event.Join t f ps) (Accepted r) ∷ es) g p
    joins t f ps r all text so_far true true i j some = mentioned t f ps r all text j so_far some
        (lives (past o es) p) refl
    joins t f ps r all text so_far b c i j some = grind arith

    was_so : (ev : Event) (v : Verdict) → spawned (past o es) ≤ spawned (past o (but e ev v ∷ es))
        → IsJoined es g p → IsJoined (but e ev v ∷ es) g p
    was_so = grind arith

    by_event : (ev : Event) (v : Verdict) → v ≡ judgement (past o es) e.seat ev → IsWritten ev
        → Before → After ev v
    by_event ev (Refused r) q text so_far some = grind arith
    by_event (Event.Join t f ps) (Accepted r) q text so_far some =
        joins t f ps r (grind arith) text.1 so_far (same t s) (same f g) refl refl some
    by_event Event.Restart (Accepted r) q text so_far some = absurd (omega arith)
    by_event ev (Accepted r) q text so_far some = grind arith

  joined_text : (es : List Entry) → IsPlayedIn o es → AllWritten es → (s g : List ℕ) (p : Pid)
      → 0 < joined s g p (events es) → IsJoined es g p
  joined_text [] legal written s g p some = absurd (omega arith)
  joined_text (e ∷ es) legal written s g p some = by_event es e s g p e.event e.verdict
      legal.0.judged written.0 (joined_text es legal.1 written.1 s g p) some

  -- there are no more processes than entries
  few_spawned : (es : List Entry) → IsPlayedIn o es → spawned (past o es) ≤ entered es
  few_spawned [] legal = omega arith
  few_spawned (e ∷ es) legal = grind (arith, few_spawned es legal.1)

  -- the creation fits its field
  creation_fits : o.creation < 2 ^ 32 → (es : List Entry) → IsPlayedIn o es
      → creation (past o es) < 2 ^ 32
  creation_fits first [] legal = omega arith
  creation_fits first (e ∷ es) legal = grind (arith, creation_fits first es legal.1)

-- ---- of a node

module _ (h : History) (node : IsNode h) where
  pub scope_text : (s : List ℕ) → is_running h s ≡ true → IsText s
  scope_text = runs_text h.opening h.entries node.written

  pub scopes_text : AllByRecursion IsText (running_scopes h)
  scopes_text = grind (arith, all_among, scope_text, running_among)

  -- so its creation fits its field
  pub own_creation_fits : creation h < 2 ^ 32
  own_creation_fits = grind (arith, creation_fits)

  -- a local process with a number that was spawned has a row
  local_row : (g : List ℕ) (p : Pid) → IsText g → is_local h p ≡ true → p.number ≤ spawned h
      → IsRow (row g p)
  local_row = grind (arith, same_decides, own_creation_fits, few_spawned)

  -- a process that lives has one in each group
  pub living_row : (g : List ℕ) (p : Pid) → IsText g → lives h p ≡ true → IsRow (row g p)
  living_row g p text alive = local_row g p text (grind arith)
      (leb-true p.number (spawned h) (grind arith))

  pub own_row : (s g : List ℕ) (p : Pid) → 0 < own h s g p → IsRow (row g p)
  own_row s g p =
      grind (
        arith,
        joined_text h.opening h.entries node.legal node.written s g p,
        local_row g p,
        foreign_own,
      )

  -- all own rows of a scope
  pub own_rows : (s : List ℕ) → AllByRecursion IsRow (local_rows h s)
  own_rows s = grind (arith, all_counted, own_row, local_rows_are h s)
