-- What a Join, a Leave and an Exit say of a scope to a link.
use Rattle.frame_laws.proofs
use proofs.Words.{Accepted, AllByRecursion, ap, apart, append-nil, append_assoc, arith, Bool, but}
use proofs.Words.{cond, Entry, Event, false, filter, flat_map, History, if_told, is_about_rows}
use proofs.Words.{is_among, is_empty, is_running, is_whole, IsListing, IsNode, IsStep, IsText}
use proofs.Words.{IsWritten, Less, lie, link_version, List, local_rows, local_rows_are, Message}
use proofs.Words.{message_of, occurrences, Opening, OutFrame, own, PartKind, past, Pid, refl, Reply}
use proofs.Words.{Rises, Row, row, rows_of, running_among, running_rises, running_scopes}
use proofs.Words.{said_frames, same, same_decides, same_pid, same_pid_decides, same_row}
use proofs.Words.{same_row_decides, same_sym, Some, sym, text_cmp, told, told_runs, true, Verdict}
use proofs.Words.{ℕ, [], ◌++◌, ◌+◌, ◌-◌, ◌∙◌, ◌∷◌, ◌≡◌, ◌≤◌}
use proofs.Calm.{AllCalm, calm_closed, calm_message}
use proofs.OwnLimits.{scope_text, scopes_text}
use proofs.Telling.{EntryTells, IsTold, Silent, Spoke, Tells, told_join, told_leave}
use proofs.Sayable.{IsSayable}
use proofs.OwnMessages.{exit_is, exit_rows, join_few, join_is, join_listing, join_met, join_rows}
use proofs.OwnMessages.{leave_is, leave_listing, leave_rows, own_room, told_room}

-- ---- the part of one scope: rows to a peer that is told, among calm frames

module _ (h : History) (node : IsNode h) (l v : ℕ)
    (agrees : is_whole l h.entries ≡ true → link_version h.opening l h.entries ≡ v)
    (s : List ℕ) where
  abbrev is_told : Bool
  is_told = told h.opening l s h.entries

  module _ (was now : List ℕ → Pid → ℕ) (kind : PartKind) (rows : List Row)
      (is : is_told ≡ true → is_empty rows ≡ false
      → IsSayable v (message_of kind s rows))
      (stays : is_empty rows ≡ true → (g : List ℕ) (p : Pid) → now g p ≡ was g p)
      (tells_so : is_told ≡ true
      → IsTold v s is_told was now kind rows) where
    abbrev say : List Row → Message
    say rs = message_of kind s rs

    part_tells : (front back fs : List OutFrame) → fs ≡ front ++ (if_told h l s say rows ++ back)
        → AllCalm v s front → AllCalm v s back
        → Tells v s is_told is_told was now fs
    part_tells front back fs whole early late =
        by is_told refl (is_empty rows) refl
      where
        none : if_told h l s say rows ≡ [] → AllCalm v s fs
        none = grind (arith, calm_closed v s)

        one : is_told ≡ true → is_empty rows ≡ false
            → if_told h l s say rows ≡ said_frames v (say rows)
        one = grind arith

        by : (b : Bool) → is_told ≡ b → (c : Bool) → is_empty rows ≡ c
            → Tells v s is_told is_told was now fs
        by false untold c q = grind (arith, none)
        by true tells true q = grind (arith, none)
        by true tells false q = Spoke front kind rows back
            (whole ∙ ap (λ x. front ++ (x ++ back)) (one tells q)) early late (is tells q)
            (tells_so tells)

    -- and they alone
    alone_tells : Tells v s is_told is_told was now
        (if_told h l s say rows)
    alone_tells = part_tells [] [] (if_told h l s say rows)
        (sym (append-nil (if_told h l s say rows))) (calm_closed v s).nothing
        (calm_closed v s).nothing

-- rows of another scope
part_calm : (h : History) (node : IsNode h) (l v : ℕ)
    (agrees : is_whole l h.entries ≡ true → link_version h.opening l h.entries ≡ v)
    (s t : List ℕ) (say : List Row → Message) (rows : List Row)
    → (told h.opening l t h.entries ≡ true → is_empty rows ≡ false → IsSayable v (say rows))
    → is_about_rows s (Some (say rows)) ≡ false → AllCalm v s (if_told h l t say rows)
part_calm h node l v agrees s t say rows = grind (arith, calm_message v s (say rows))

nothing_of : (g : List ℕ) (p : Pid) (rows : List Row) → is_empty rows ≡ true → rows_of g p rows ≡ 0
nothing_of g p [] q = refl
nothing_of g p (r ∷ rows) q = cc

-- all own rows
own_within : (h : History) (s g : List ℕ) (p : Pid) → own h s g p ≤ rows_of g p (local_rows h s)
own_within h s g p = omega (arith, IsListing.counts (local_rows_are h s) (row g p))

module _ (o : Opening) (es : List Entry) (e : Entry) (node : IsNode (past o es)) (l v : ℕ)
    (agrees : is_whole l es ≡ true → link_version o l es ≡ v) (s : List ℕ) where
  abbrev h : History
  h = past o es

  abbrev TellsOf : Event → Verdict → Type 0
  TellsOf ev w = EntryTells v o l s (but e ev w) es

  -- ---- a Join

  module _ (g : List ℕ) (ps : List Pid) (r : Reply) where
    abbrev joins : Entry
    joins = but e (Event.Join s g ps) (Accepted r)

    joined_now : is_running h s ≡ true → (f : List ℕ) (p : Pid)
        → own (past o (joins ∷ es)) s f p ≡ own h s f p + rows_of f p (join_rows h node g ps)
    joined_now runs f p =
        grind (arith, same_decides, same_sym, IsListing.counts (join_listing h node g ps) (row f p))

    join_here : IsStep h (but e (Event.Join s g ps) (Accepted r)) → IsWritten (Event.Join s g ps)
        → TellsOf (Event.Join s g ps) (Accepted r)
    join_here next text =
        let met = join_met h node e.seat s g ps r next.judged in
        alone_tells h node l v agrees s (own h s) (own (past o (joins ∷ es)) s)
        PartKind.Join (join_rows h node g ps)
        (join_is h node l v agrees s g ps text.0 text.1 met.alive met.room)
        (λ q f p. (let none = nothing_of f p (join_rows h node g ps) q in let is =
        joined_now met.runs f p in omega arith))
        (λ tells. told_join tells (local_rows h s) (own_within h s)
        (omega (arith, join_few h node g ps, told_room h node l v agrees s tells))
        (joined_now met.runs))

    pub join_tells : (t : List ℕ) → IsStep h (but e (Event.Join t g ps) (Accepted r))
        → IsWritten (Event.Join t g ps) → TellsOf (Event.Join t g ps) (Accepted r)
    join_tells t next text = by (same t s) refl
      where
        by : (b : Bool) → same t s ≡ b → TellsOf (Event.Join t g ps) (Accepted r)
        by true is =
            let it = (same_decides t s).0 is in
            rw it (join_here (rw it at next) (rw it at text))
        by false other =
            grind (
              arith,
              join_met h node e.seat t g ps r next.judged,
              part_calm h node l v agrees s t (Message.Join t) (join_rows h node g ps),
              join_is h node l v agrees t g ps text.0 text.1,
            )

  -- ---- a Leave

  module _ (g : List ℕ) (ps : List Pid) (r : Reply) where
    abbrev leaves : Entry
    leaves = but e (Event.Leave s g ps) (Accepted r)

    left_now : (f : List ℕ) (p : Pid)
        → own (past o (leaves ∷ es)) s f p ≡ own h s f p - rows_of f p (leave_rows h node s g ps)
    left_now f p =
        grind (
          arith,
          same_decides,
          same_sym,
          IsListing.counts (leave_listing h node s g ps) (row f p),
        )

    leave_here : IsWritten (Event.Leave s g ps) → TellsOf (Event.Leave s g ps) (Accepted r)
    leave_here text =
        alone_tells h node l v agrees s (own h s) (own (past o (leaves ∷ es)) s)
        PartKind.Leave (leave_rows h node s g ps)
        (leave_is h node l v agrees s g ps text.0)
        (λ q f p. omega (arith, nothing_of f p (leave_rows h node s g ps) q, left_now f p))
        (λ tells. told_leave tells (local_rows h s) (own_within h s)
        (own_room h node l v agrees s tells)
        (λ f p. grind (
          arith,
          same_decides,
          IsListing.counts (leave_listing h node s g ps) (row f p),
        ))
        left_now)

    pub leave_tells : (t : List ℕ) → IsWritten (Event.Leave t g ps)
        → TellsOf (Event.Leave t g ps) (Accepted r)
    leave_tells t text = by (same t s) refl
      where
        by : (b : Bool) → same t s ≡ b → TellsOf (Event.Leave t g ps) (Accepted r)
        by true is =
            let it = (same_decides t s).0 is in rw it (leave_here (rw it at text))
        by false other =
            grind (
              arith,
              part_calm h node l v agrees s t (Message.Leave t) (leave_rows h node t g ps),
              leave_is h node l v agrees t g ps text.0,
            )

  -- ---- an Exit

  module _ (x : Pid) (r : Reply) where
    abbrev part_of : List ℕ → List OutFrame
    part_of t = if_told h l t (Message.Leave t) (exit_rows h node t x)

    abbrev parts : List (List ℕ) → List OutFrame
    parts ss = flat_map part_of ss

    exit_counts : (q : Row) (rows : List Row)
        → occurrences same_row q (filter (λ w. same_pid w.pid x) rows) ≡ cond (same_pid q.pid x)
        (occurrences same_row q rows) 0
    exit_counts q [] = grind arith
    exit_counts q (w ∷ rows) = grind (arith, exit_counts q rows, same_row_decides)

    abbrev exits : Entry
    exits = but e (Event.Exit x) (Accepted r)

    exited_now : (f : List ℕ) (p : Pid)
        → own (past o (exits ∷ es)) s f p ≡ own h s f p - rows_of f p (exit_rows h node s x)
    exited_now f p =
        grind (
          arith,
          exit_counts,
          IsListing.counts (local_rows_are h s) (row f p),
          same_pid_decides,
        )

    -- the parts of other scopes
    others : (ss : List (List ℕ)) → is_among s ss ≡ false → AllByRecursion IsText ss
        → AllCalm v s (parts ss)
    others [] out texts = (calm_closed v s).nothing
    others (t ∷ ss) out texts =
        grind (
          arith,
          calm_closed v s,
          part_calm h node l v agrees s t (Message.Leave t) (exit_rows h node t x),
          exit_is h node l v agrees t x texts.0,
          others ss (grind arith) texts.1,
        )

    -- the part of s stands once
    record IsParted (ss : List (List ℕ)) : Type 0 where
      front : List OutFrame
      back : List OutFrame
      whole : parts ss ≡ front ++ (part_of s ++ back)
      early : AllCalm v s front
      late : AllCalm v s back

    absent : (t : List ℕ) (ss : List (List ℕ)) → AllByRecursion (λ u. text_cmp t u ≡ Less) ss
        → is_among t ss ≡ false
    absent t [] above = refl
    absent t (u ∷ ss) above = grind (arith, apart, absent t ss above.1)

    parted : (ss : List (List ℕ)) → Rises text_cmp ss → AllByRecursion IsText ss
        → is_among s ss ≡ true → IsParted ss
    parted [] rises texts q = cc
    parted (t ∷ ss) rises texts q = by (same t s) refl (parted ss rises.1 texts.1)
      where
        by : (b : Bool) → same t s ≡ b → (is_among s ss ≡ true → IsParted ss) → IsParted (t ∷ ss)
        by true is later =
            let here : t ≡ s = (same_decides t s).0 is in
            record {
              front = [];
              back = parts ss;
              whole = ap (λ u. part_of u ++ parts ss) here;
              early = (calm_closed v s).nothing;
              late = others ss (rw here at (absent t ss rises.0)) texts.1;
            }
        by false other later =
            let it = later (grind arith) in
            record {
              front = part_of t ++ it.front;
              back = it.back;
              whole = grind (arith, append_assoc);
              early = (calm_closed v s).both (part_of t) it.front
                  (part_calm h node l v agrees s t (Message.Leave t) (exit_rows h node t x)
                  (exit_is h node l v agrees t x texts.0) other) it.early;
              late = it.late;
            }

    pub exit_tells : TellsOf (Event.Exit x) (Accepted r)
    exit_tells = by (is_running h s) refl
      where
        by : (b : Bool) → is_running h s ≡ b → TellsOf (Event.Exit x) (Accepted r)
        by true runs =
            let it = parted (running_scopes h) (running_rises h) (scopes_text h node)
            (running_among h s ∙ runs) in
            part_tells h node l v agrees s (own h s) (own (past o (exits ∷ es)) s)
            PartKind.Leave (exit_rows h node s x)
            (exit_is h node l v agrees s x (scope_text h node s runs))
            (λ q f p. omega (arith, nothing_of f p (exit_rows h node s x) q, exited_now f p))
            (λ tells. told_leave tells (local_rows h s) (own_within h s)
            (own_room h node l v agrees s tells)
            (λ f p. grind (arith, exit_counts, IsListing.counts (local_rows_are h s) (row f p)))
            exited_now)
            it.front it.back (parts (running_scopes h)) it.whole it.early it.late
        by false stopped = Silent (others (running_scopes h) (running_among h s ∙ stopped)
            (scopes_text h node)) (λ tells. lie (sym (told_runs h node.legal l s tells) ∙ stopped))
