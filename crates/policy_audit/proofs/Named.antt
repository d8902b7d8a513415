-- Who is counted in a group was named by an event.
use Rattle.policy_audit.proofs
use proofs.Words.{Accepted, arith, Begun, begun, Bool, completed, cond, Entry, Event, events, false}
use proofs.Words.{filter, flat_map, frame_taken, groups_named, History, is_among, is_whole, joined}
use proofs.Words.{kept_after, link_version, List, list_any, list_any-append, listed, map, mentions}
use proofs.Words.{Message2, message_taken, None, occurrences, Opening, Option, option_and_then}
use proofs.Words.{option_map_or, own, PartKind, Pid, pids_named, refl, Reply, Row, row, rows_before}
use proofs.Words.{rows_in_part, rows_named, rows_of, rows_so_far, same, same_decides, same_pid}
use proofs.Words.{same_row, Some, stands_in, stated_in, Talk, talk, talk_of, true, Verdict}
use proofs.Words.{ℕ, [], ◌&&◌, ◌++◌, ◌<◌, ◌==◌, ◌∷◌, ◌≡◌, ◌||◌}
use Rattle.std.specs.Prelude.{suc, zero}
use proofs.Walked.{but}

-- ---- lists

pub any_behind : {A : Type 0} (test : A → Bool) (xs ys : List A) → list_any test ys ≡ true
    → list_any test (xs ++ ys) ≡ true
any_behind test xs ys q = grind (arith, list_any-append test xs ys)

pub any_before : {A : Type 0} (test : A → Bool) (xs ys : List A) → list_any test xs ≡ true
    → list_any test (xs ++ ys) ≡ true
any_before test xs ys q = grind (arith, list_any-append test xs ys)

-- what occurs stands in the list
pub occurs_stands : {A : Type 0} (alike : A → A → Bool) (x : A) (xs : List A)
    → 0 < occurrences alike x xs → stands_in alike x xs ≡ true
occurs_stands alike x [] h = absurd (omega arith)
occurs_stands alike x (y ∷ ys) h = grind (arith, occurs_stands alike x ys)

-- and the other way round
pub stands_occurs : {A : Type 0} (alike : A → A → Bool) (x : A) (xs : List A)
    → stands_in alike x xs ≡ true → 0 < occurrences alike x xs
stands_occurs alike x [] h = absurd (let f : false ≡ true = h in cc)
stands_occurs alike x (y ∷ ys) h = grind (arith, stands_occurs alike x ys)

pub some_where : (b : Bool) (n : ℕ) → 0 < cond b n 0 → 0 < n
some_where b n h = grind arith

-- ---- rows that events name

module _ (s g : List ℕ) (p : Pid) where
  -- the row is among these
  abbrev pub has : List Row → Bool
  has rows = stands_in same_row (row g p) rows

  abbrev pub named_in : List Event → Bool
  named_in es = has (flat_map (rows_named s) es)

  -- a process that is mentioned has its row
  mentioned : (f : List ℕ) → same f g ≡ true → (ps : List Pid) → 0 < mentions p ps
      → has (map (row f) ps) ≡ true
  mentioned f q [] h = absurd (omega arith)
  mentioned f q (x ∷ ps) h = grind (arith, mentioned f q ps)

  pub joined_named : (es : List Event) → 0 < joined s g p es → named_in es ≡ true
  joined_named [] h = absurd (omega arith)
  joined_named (e ∷ es) h = grind (arith, joined_named es, list_any-append, mentioned)

  -- what a message brings
  brought : (rows : List Row) → 0 < rows_of g p rows → has rows ≡ true
  brought rows = occurs_stands same_row (row g p) rows

  -- the rows of s that are kept of a message whose parts are coming
  abbrev kept_here : Option Begun → List Row
  kept_here b = option_map_or (λ x. cond (same x.scope s) x.rows []) b []

  -- what a part has with those before it was kept, or is its own
  before_here : (b : Option Begun) (kind : PartKind) (t : List ℕ) (number : ℕ) → same t s ≡ true
      → has (rows_before b kind t number) ≡ true → has (kept_here b) ≡ true
  before_here None kind t number q h = grind arith
  before_here (Some b) kind t number q h = grind (arith, same_decides t s, same_decides b.scope t)

  so_far_here : (b : Option Begun) (kind : PartKind) (t : List ℕ) (number : ℕ) (rows : List Row)
      → same t s ≡ true → has (rows_so_far b kind t number rows) ≡ true
      → (has (kept_here b) || has rows) ≡ true
  so_far_here b kind t number rows q h =
      grind (arith, before_here b kind t number q, list_any-append)

  part_here : Option Message2 → List Row
  part_here x = rows_in_part s x

  -- what is kept after a message
  kept_next : (b : Option Begun) (x : Option Message2) → has (kept_here (kept_after b x)) ≡ true
      → (has (kept_here b) || has (rows_in_part s x)) ≡ true
  kept_next b None h = grind arith
  kept_next b (Some (Message2.Discover t)) h = grind arith
  kept_next b (Some (Message2.Down t)) h = grind arith
  kept_next b (Some (Message2.Part kind t number true rows)) h = grind arith
  kept_next b (Some (Message2.Part kind t number false rows)) h =
      grind (arith, so_far_here b kind t number rows)

  -- what was stated after a message
  stated_next : (b : Option Begun) (x : Option Message2) (ts : List Talk)
      → 0 < stated_in s g p (talk_of (option_and_then (completed b) x) ++ ts)
      → stated_in s g p ts ≡ 0 → (has (kept_here b) || has (rows_in_part s x)) ≡ true
  stated_next b None ts h none = absurd (omega (arith, h, none))
  stated_next b (Some (Message2.Discover t)) ts h none = absurd (omega (arith, h, none))
  stated_next b (Some (Message2.Down t)) ts h none = grind arith
  stated_next b (Some (Message2.Part kind t number false rows)) ts h none =
      absurd (omega (arith, h, none))
  stated_next b (Some (Message2.Part kind t number true rows)) ts h none =
      grind (
        arith,
        none,
        brought (rows_so_far b kind t number rows),
        so_far_here b kind t number rows,
      )

  -- a part that a link takes is read from its body by one of the two grammars
  part_named : (version : ℕ) (l : ℕ) (body : List ℕ)
      → has (rows_in_part s (message_taken version body)) ≡ true
      → has (rows_named s (Event.Frame l body)) ≡ true
  part_named version l body h = grind (arith, any_behind, any_before)

  -- whoever is kept or stated was named
  record IsAllNamed (o : Opening) (l : ℕ) (es : List Entry) : Type 0 where
    kept_is : has (kept_here (begun o l es)) ≡ true → named_in (events es) ≡ true
    stated_is : 0 < stated_in s g p (talk o l es) → named_in (events es) ≡ true

  -- another event behind it
  named_on : (ev : Event) (es : List Entry) → named_in (events es) ≡ true
      → has (rows_named s ev ++ flat_map (rows_named s) (events es)) ≡ true
  named_on ev es h = grind (arith, any_behind)

  named_here : (ev : Event) (es : List Entry) → has (rows_named s ev) ≡ true
      → has (rows_named s ev ++ flat_map (rows_named s) (events es)) ≡ true
  named_here ev es h = grind (arith, any_before)

  frame_named : (o : Opening) (l k : ℕ) (body : List ℕ) (es : List Entry) → IsAllNamed o l es
      → (has (kept_here (begun o l es)) || has (rows_in_part s (frame_taken o l es body))) ≡ true
      → has (rows_named s (Event.Frame k body) ++ flat_map (rows_named s) (events es)) ≡ true
  frame_named o l k body es all h = by (has (kept_here (begun o l es))) refl
    where
      by : (b : Bool) → has (kept_here (begun o l es)) ≡ b
          → has (rows_named s (Event.Frame k body) ++ flat_map (rows_named s) (events es)) ≡ true
      by true q = named_on (Event.Frame k body) es (IsAllNamed.kept_is all q)
      by false q =
          named_here (Event.Frame k body) es (part_named (link_version o l es) k body (grind arith))

  all_named : (o : Opening) (l : ℕ) (es : List Entry) → IsAllNamed o l es
  all_named o l [] = record { kept_is = λ h. h; stated_is = λ h. absurd (omega (arith, h)) }
  all_named o l (e ∷ es) = by_event e.event e.verdict (all_named o l es)
    where
      by_event : (ev : Event) (v : Verdict) → IsAllNamed o l es → IsAllNamed o l (but e ev v ∷ es)
      by_event (Event.Frame k body) (Accepted r) all = by ((k == l) && is_whole l es) refl
        where
          stated_by : (k : ℕ) (body : List ℕ) (r : Reply) → IsAllNamed o l es
              → ((k == l) && is_whole l es) ≡ true
              → 0 < stated_in s g p (talk o l (but e (Event.Frame k body) (Accepted r) ∷ es))
              → has (rows_named s (Event.Frame k body) ++ flat_map (rows_named s) (events es))
              ≡ true
          stated_by k body r all q h = by_count (stated_in s g p (talk o l es)) refl
            where
              by_count : (n : ℕ) → stated_in s g p (talk o l es) ≡ n
                  → has (rows_named s (Event.Frame k body) ++ flat_map (rows_named s) (events es))
                  ≡ true
              by_count zero none =
                  frame_named o l k body es all
                  (stated_next (begun o l es) (frame_taken o l es body) (talk o l es)
                  (grind (arith, h, q)) none)
              by_count (suc n) some =
                  named_on (Event.Frame k body) es (IsAllNamed.stated_is all (omega (arith, some)))

          by : (b : Bool) → ((k == l) && is_whole l es) ≡ b
              → IsAllNamed o l (but e (Event.Frame k body) (Accepted r) ∷ es)
          by true q = record {
            kept_is = λ h. frame_named o l k body es all
                (kept_next (begun o l es) (frame_taken o l es body) (grind (arith, h, q)));
            stated_is = λ h. stated_by k body r all q h;
          }
          by false q = record {
            kept_is = λ h. named_on (Event.Frame k body) es
                (IsAllNamed.kept_is all (grind (arith, h, q)));
            stated_is =
                λ h. named_on (Event.Frame k body) es
                (IsAllNamed.stated_is all (grind (arith, h, q)));
          }
      by_event ev v all = grind (arith, all, list_any-append)

  pub own_named : (h : History) → 0 < own h s g p → named_in (events h.entries) ≡ true
  own_named h q = grind (arith, joined_named, some_where)

  pub listed_named : (h : History) → 0 < listed h s g p → named_in (events h.entries) ≡ true
  listed_named h q = grind (arith, own_named h, spoken)
    where
      spoken : (l : ℕ) → 0 < stated_in s g p (talk h.opening l h.entries)
          → named_in (events h.entries) ≡ true
      spoken l = IsAllNamed.stated_is (all_named h.opening l h.entries)

  -- ---- the group and the process of a row that is named

  group_of : (rows : List Row) → has rows ≡ true → is_among g (map (λ r. r.group) rows) ≡ true
  group_of [] q = q
  group_of (r ∷ rows) q = grind (arith, group_of rows)

  pid_of : (rows : List Row) → has rows ≡ true
      → stands_in same_pid p (map (λ r. r.pid) (filter (λ r. same r.group g) rows)) ≡ true
  pid_of [] q = q
  pid_of (r ∷ rows) q = grind (arith, pid_of rows)

  pub group_named : (es : List Event) → named_in es ≡ true → is_among g (groups_named s es) ≡ true
  group_named es q = group_of (flat_map (rows_named s) es) q

  pub pid_named : (es : List Event) → named_in es ≡ true
      → stands_in same_pid p (pids_named s g es) ≡ true
  pid_named es q = pid_of (flat_map (rows_named s) es) q
