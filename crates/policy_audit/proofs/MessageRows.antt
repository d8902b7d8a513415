-- How often a process is listed after each message.
use Rattle.policy_audit.proofs
use proofs.Words.{and_parts, ap, arith, AwaitMessage, awaits, Bool, cond, Entry, eq-eqb, Event}
use proofs.Words.{false, first_broken, frame_checks, frame_taken, heard, hears, History}
use proofs.Words.{is_accepted, is_from, is_last, is_open, is_running, is_up, is_visible, is_whole}
use proofs.Words.{IsPlayed, IsStep, just, List, list_all, listed, Message, None, not, occurrences}
use proofs.Words.{opened, peer_of, Pid, present_link, Row, row, rows_of, runs, Said, said_at, same}
use proofs.Words.{same_decides, same_row, same_row_decides, same_sym, Some, stated_in, subst, sym}
use proofs.Words.{Taken, taken, Talk, talk, true, whole_checks, ℕ, ◌&&◌, ◌+◌, ◌-◌, ◌∙◌}
use proofs.Words.{◌∷◌, ◌≡◌}
use proofs.Effects.{breaks_none}
use proofs.Accepted.{all_hold, Hold, open_first, unbroken}
use proofs.UpLinks.{agrees, and_both, other}
use proofs.Walked.{open_opened}
use proofs.RowsAfter.{done_frame, inner_rows, not_local, uncounted}
use proofs.Finished.{given_kept, is_message, kept, message_whole, whole_kept}
use proofs.Heard.{has_sync}
use proofs.Begun.{said_holds}

-- how often a link that is up lists a process of its peer
abbrev nest : Bool → Bool → Bool → Bool → ℕ → ℕ
nest running shown from sync count = cond running (cond (shown && from) (cond sync count 0) 0) 0

more : (r v f s : Bool) (c d : ℕ) → r ≡ true → v ≡ true → s ≡ true → (f ≡ false → d ≡ 0)
    → nest r v f s (c + d) ≡ nest r v f s c + d
more r v f s c d x y w z = grind arith

less : (r v f s : Bool) (c d : ℕ) → r ≡ true → v ≡ true → s ≡ true
    → nest r v f s (c - d) ≡ nest r v f s c - d
less r v f s c d x y w = grind arith

-- ---- a message on a link

module _ (h : History) (legal : IsPlayed h) (e : Entry) (made : IsStep h e)
    (yes : is_accepted e.verdict ≡ true) (l : ℕ) (body : List ℕ) (is : e.event ≡ Event.Frame l body)
    (n : List ℕ) (awaited : awaits l h.entries ≡ AwaitMessage) (of : peer_of l h.entries ≡ Some n)
    (foreign : same n h.opening.name ≡ false) where
  abbrev es : List Entry
  es = h.entries

  module _ (m : Message) (says : said_at h.opening l es body ≡ Some m) where
    inner : is_last (awaits l es) ≡ false
    inner = ap is_last awaited

    -- the link is open, and the message breaks no rule
    met : (is_open l es ≡ true) × (first_broken (whole_checks h l m) ≡ None)
    met =
        let found = open_first _ _
        (breaks_none h e _ made yes is) in
        let kind = subst (λ a. first_broken (frame_checks h l body a) ≡ None) awaited found.1 in
        (found.0, said_holds h legal l body (frame_taken h.opening l es body) m says kind)

    whole : is_whole l es ≡ true
    whole = message_whole _ _ (open_opened l es met.0)
        (ap is_message awaited)

    up_link : is_up l es ≡ true
    up_link = and_both _ _ met.0 whole

    holds : Hold (whole_checks h l m)
    holds = all_hold _ met.1

    -- how often the link lists p, with that said on it
    abbrev said_so : List ℕ → List ℕ → Pid → List Talk → ℕ
    said_so t f p ts =
        nest (is_running h t) (is_visible h l) (is_from l es p) (has_sync t ts) (stated_in t f p ts)

    present : (p : Pid) → same p.node n ≡ true → present_link p.node es ≡ Some l
    present p its = grind (arith, same_decides, agrees, up_link)

    was_said : (t f : List ℕ) (p : Pid) → same p.node n ≡ true
        → listed h t f p ≡ said_so t f p (talk h.opening l es)
    was_said t f p its = grind (arith, not_local h p n its foreign, present p its, up_link)

    now_said : (t f : List ℕ) (p : Pid) → same p.node n ≡ true
        → listed (just h e) t f p ≡ said_so t f p (Said m ∷ talk h.opening l es)
    now_said t f p its =
        done_frame h legal e made yes l body is inner
        (λ x. listed (just h x) t f p ≡ said_so t f p (Said m ∷ talk h.opening l es)) (λ q. (
        let moment : Taken = record { body = body; before = es } in
        grind (
          arith,
          not_local h p n its foreign,
          present p its,
          up_link,
          given_kept moment (opened l es) (taken l es) whole,
          kept moment (opened l es) (taken l es) whole,
          whole_kept moment (opened l es) (taken l es) whole,
          eq-eqb l l,
        )))

    -- a process of another node
    elsewhere : (t f : List ℕ) (p : Pid) → same p.node n ≡ false
        → listed (just h e) t f p ≡ listed h t f p
    elsewhere t f p other =
        inner_rows h legal e made yes l body is inner t f p (grind (arith, of, same_sym n p.node))

    -- so each process is listed as the message says, where these hold of it
    changed : (s t f : List ℕ) (p : Pid) (now : ℕ)
        → (same s t ≡ false
        → said_so t f p (Said m ∷ talk h.opening l es) ≡ said_so t f p (talk h.opening l es))
        → (same p.node n ≡ true → same s t ≡ true
        → said_so t f p (Said m ∷ talk h.opening l es) ≡ now)
        → (same p.node n ≡ false → same s t ≡ true → listed h t f p ≡ now)
        → listed (just h e) t f p ≡ cond (same t s) now (listed h t f p)
    changed s t f p now apart its others =
        grind (arith, apart, its, others, same_sym, now_said, was_said, elsewhere)

  pub discovered_rows : (s : List ℕ) → said_at h.opening l es body ≡ Some (Message.Discover s)
      → (t f : List ℕ) (p : Pid) → listed (just h e) t f p ≡ listed h t f p
  discovered_rows s says t f p = grind (arith, inner_rows)

  -- a part that completes no message
  pub unsaid_rows : said_at h.opening l es body ≡ None
      → (t f : List ℕ) (p : Pid) → listed (just h e) t f p ≡ listed h t f p
  unsaid_rows says t f p = grind (arith, inner_rows)

  -- what the link says of itself in a scope that runs
  running_as : (s t : List ℕ) → same s t ≡ true → not (is_running h s) ≡ false
      → is_running h t ≡ true
  running_as s t q runs = ap (is_running h) (sym ((same_decides s t).0 q))
      ∙ unbroken _ runs

  heard_as : (s t : List ℕ) → same s t ≡ true → not (heard h.opening l s es) ≡ false
      → has_sync t (talk h.opening l es) ≡ true
  heard_as s t q hears = grind (arith, same_decides, and_parts, unbroken)

  -- a message names no process that isn't from its link
  none_from : (rows : List Row) → not (list_all (λ r. is_from l es r.pid) rows) ≡ false
      → (f : List ℕ) (p : Pid) → is_from l es p ≡ false → rows_of f p rows ≡ 0
  none_from rows from f p out = grind (arith, uncounted, same_row_decides, unbroken)

  foreign_from : (p : Pid) → same p.node n ≡ false → is_from l es p ≡ false
  foreign_from p other = grind (arith, of, same_sym n p.node)

  pub synced_rows : (s : List ℕ) (rows : List Row)
      → said_at h.opening l es body ≡ Some (Message.Sync s rows) → (t f : List ℕ) (p : Pid)
      → listed (just h e) t f p
      ≡ cond (same t s)
      (cond (same p.node n) (occurrences same_row (row f p) rows) (listed h t f p)) (listed h t f p)
  synced_rows s rows says t f p =
      let k = holds (Message.Sync s rows) says in
      changed (Message.Sync s rows) says s t f p
      (cond (same p.node n) (rows_of f p rows) (listed h t f p)) (λ q. grind arith)
      (λ i q. said q (running_as s t q k.1.0) (unbroken _ k.0)
      (none_from rows k.1.1.0 f p) ∙ ap (λ b. cond b (rows_of f p rows) (listed h t f p))
      (sym i))
      (λ i q. ap (λ b. cond b (rows_of f p rows) (listed h t f p)) (sym i))
    where
      said : same s t ≡ true → is_running h t ≡ true → is_visible h l ≡ true
          → (is_from l es p ≡ false → rows_of f p rows ≡ 0)
          → nest (is_running h t) (is_visible h l) (is_from l es p)
          (has_sync t (Said (Message.Sync s rows) ∷ talk h.opening l es))
          (stated_in t f p (Said (Message.Sync s rows) ∷ talk h.opening l es)) ≡ rows_of f p rows
      said q a b z = grind arith

  pub added_rows : (s : List ℕ) (rows : List Row)
      → said_at h.opening l es body ≡ Some (Message.Join s rows) → (t f : List ℕ) (p : Pid)
      → listed (just h e) t f p
      ≡ cond (same t s) (listed h t f p + occurrences same_row (row f p) rows) (listed h t f p)
  added_rows s rows says t f p =
      let k = holds (Message.Join s rows) says in
      changed (Message.Join s rows) says s t f p (listed h t f p + rows_of f p rows)
      (λ q. grind arith)
      (λ i q. ap (λ b. nest (is_running h t) (is_visible h l) (is_from l es p)
      (has_sync t (talk h.opening l es))
      (cond b (stated_in t f p (talk h.opening l es) + rows_of f p rows)
      (stated_in t f p (talk h.opening l es)))) q
      ∙ more (is_running h t) (is_visible h l) (is_from l es p) (has_sync t (talk h.opening l es))
      (stated_in t f p (talk h.opening l es)) (rows_of f p rows) (running_as s t q k.1.0)
      (unbroken _ k.0) (heard_as s t q k.1.1.0) (none_from rows k.1.1.1.0 f p)
      ∙ ap (λ c. c + rows_of f p rows) (sym (was_said (Message.Join s rows) says t f p i)))
      (λ i q. omega (arith, none_from rows k.1.1.1.0 f p (foreign_from p i)))

  pub taken_rows : (s : List ℕ) (rows : List Row)
      → said_at h.opening l es body ≡ Some (Message.Leave s rows) → (t f : List ℕ) (p : Pid)
      → listed (just h e) t f p
      ≡ cond (same t s) (listed h t f p - occurrences same_row (row f p) rows) (listed h t f p)
  taken_rows s rows says t f p =
      let k = holds (Message.Leave s rows) says in
      changed (Message.Leave s rows) says s t f p (listed h t f p - rows_of f p rows)
      (λ q. grind arith)
      (λ i q. ap (λ b. nest (is_running h t) (is_visible h l) (is_from l es p)
      (has_sync t (talk h.opening l es))
      (cond b (stated_in t f p (talk h.opening l es) - rows_of f p rows)
      (stated_in t f p (talk h.opening l es)))) q
      ∙ less (is_running h t) (is_visible h l) (is_from l es p) (has_sync t (talk h.opening l es))
      (stated_in t f p (talk h.opening l es)) (rows_of f p rows) (running_as s t q k.1.0)
      (unbroken _ k.0) (heard_as s t q k.1.1.0)
      ∙ ap (λ c. c - rows_of f p rows) (sym (was_said (Message.Leave s rows) says t f p i)))
      (λ i q. omega (arith, none_from rows k.1.1.1.0 f p (foreign_from p i)))

  pub downed_rows : (s : List ℕ) → said_at h.opening l es body ≡ Some (Message.Down s)
      → (t f : List ℕ) (p : Pid)
      → listed (just h e) t f p
      ≡ cond (same t s) (cond (same p.node n) 0 (listed h t f p)) (listed h t f p)
  downed_rows s says t f p =
      changed (Message.Down s) says s t f p (cond (same p.node n) 0 (listed h t f p))
      (λ q. grind arith)
      (λ i q. grind (arith, i, q)) (λ i q. grind (arith, i))
