-- The computed change is the exact difference of what two histories list.
use Rattle.policy_audit.proofs
use proofs.Words.{AllByRecursion, ap, append-nil, arith, ascending, ascending_rises}
use proofs.Words.{ascending_stands, bare_entry, Bool, Change, change, change_unless_empty, cond}
use proofs.Words.{Entry, entry_of, Event, events, events_of, exact_bytes, exact_pids, false}
use proofs.Words.{first_of, flat_map, flat_map-append, GroupChange, groups_in, groups_named}
use proofs.Words.{History, if_some, is_among, is_empty, is_full, is_running, IsChange, IsDifference}
use proofs.Words.{IsListing, IsNext, IsPidListing, IsProper, Less, List, list_any-append}
use proofs.Words.{listed, listing, listing_counts, ltb-true, map, mentions, not-false, one_of_many}
use proofs.Words.{or_parts, Pid, pid_cmp, pids_named, pids_total, refl, Rises, same, same_decides}
use proofs.Words.{same_pid, same_pid_decides, scope_change, scopes_started, starts, subst, sym}
use proofs.Words.{text_cmp, texts_total, total, true, unwrap_or, verdict, with_entry, ℕ, [], ◌&&◌}
use proofs.Words.{◌++◌, ◌+◌, ◌-◌, ◌<◌, ◌∙◌, ◌∷◌, ◌≡◌}
use proofs.Accepted.{lie}
use proofs.LostWords.{change_unread}
use proofs.OneDifference.{apart}
use proofs.Named.{any_before, any_behind, group_named, listed_named, named_in, pid_named}

-- ---- the difference in one scope

total_append : {A : Type 0} (f : A → ℕ) (xs ys : List A)
    → total f (xs ++ ys) ≡ total f xs + total f ys
total_append f [] ys = omega arith
total_append f (x ∷ xs) ys = (let rest = total_append f xs ys in omega (arith, rest))

none_mentioned : (p : Pid) (ps : List Pid) → is_empty ps ≡ true → mentions p ps ≡ 0
none_mentioned p ps e = grind arith

module _ (before after : List ℕ → Pid → ℕ) (left joined : List ℕ → List Pid)
    (left_is : (g : List ℕ) → IsPidListing (λ p. before g p - after g p) (left g))
    (joined_is : (g : List ℕ) → IsPidListing (λ p. after g p - before g p) (joined g)) where
  abbrev of_group : List ℕ → List GroupChange
  of_group g = change_unless_empty g (left g) (joined g)

  -- what a group's change adds to a count of g
  adds : (side : GroupChange → List Pid) (lists : List ℕ → List Pid) (f : List ℕ)
      → side (record { group = f; left = left f; joined = joined f }) ≡ lists f
      → ((is_empty (left f) && is_empty (joined f)) ≡ true → is_empty (lists f) ≡ true)
      → (g : List ℕ) (p : Pid)
      → total (λ c. cond (same c.group g) (mentions p (side c)) 0) (of_group f)
      ≡ cond (same f g) (mentions p (lists f)) 0
  adds side lists f same_side empty g p = grind (arith, same_side, none_mentioned p (lists f))

  sums : (side : GroupChange → List Pid) (lists : List ℕ → List Pid)
      → ((f : List ℕ) → side (record { group = f; left = left f; joined = joined f }) ≡ lists f)
      → ((f : List ℕ) → (is_empty (left f) && is_empty (joined f)) ≡ true
      → is_empty (lists f) ≡ true)
      → (g : List ℕ) (p : Pid) (gs : List (List ℕ))
      → total (λ c. cond (same c.group g) (mentions p (side c)) 0) (flat_map of_group gs)
      ≡ total (λ f. cond (same f g) (mentions p (lists f)) 0) gs
  sums side lists same_side empty g p [] = refl
  sums side lists same_side empty g p (f ∷ gs) =
      total_append (λ c. cond (same c.group g) (mentions p (side c)) 0) (of_group f)
      (flat_map of_group gs)
      ∙ ap (λ (n : ℕ × ℕ). n.0 + n.1)
      (λ i. (
        adds side lists f (same_side f) (empty f) g p i,
        sums side lists same_side empty g p gs i,
      ))

  above : (g : List ℕ) (gs : List (List ℕ)) → AllByRecursion (λ f. text_cmp g f ≡ Less) gs
      → AllByRecursion (λ f. text_cmp g f ≡ Less) (map (λ c. c.group) (flat_map of_group gs))
  above g [] a = tt
  above g (f ∷ gs) a = grind (arith, above g gs a.1)

  rise : (gs : List (List ℕ)) → Rises text_cmp gs
      → Rises text_cmp (map (λ c. c.group) (flat_map of_group gs))
  rise [] a = tt
  rise (g ∷ gs) a = grind (arith, above g gs a.0, rise gs a.1)

  proper : (gs : List (List ℕ)) → AllByRecursion IsProper (flat_map of_group gs)
  proper [] = tt
  proper (g ∷ gs) = grind (
    arith,
    proper gs,
    IsListing.ascends (left_is g),
    IsListing.ascends (joined_is g),
  )

  unnamed : (b : Bool) (n m : ℕ) → n ≡ m → (0 < m → b ≡ true) → cond b n 0 ≡ m
  unnamed b n m e k = grind (arith, e, k)

  -- the groups that change are among these
  pub difference : (gs : List (List ℕ)) → Rises text_cmp gs
      → ((g : List ℕ) (p : Pid) → 0 < before g p - after g p → is_among g gs ≡ true)
      → ((g : List ℕ) (p : Pid) → 0 < after g p - before g p → is_among g gs ≡ true)
      → IsDifference before after (flat_map of_group gs)
  difference gs r l j = record {
    groups = rise gs r;
    proper = proper gs;
    left = λ g p. sums (λ c. c.left) left (λ f. refl) (λ f e. grind arith) g p gs
        ∙ one_of_many text_cmp same texts_total exact_bytes same_decides (λ f. mentions p (left f))
        g gs r
        ∙ unnamed (is_among g gs) (mentions p (left g)) (before g p - after g p)
        (IsListing.counts (left_is g) p) (l g p);
    joined = λ g p. sums (λ c. c.joined) joined (λ f. refl) (λ f e. grind arith) g p gs
        ∙ one_of_many text_cmp same texts_total exact_bytes same_decides
        (λ f. mentions p (joined f)) g gs r
        ∙ unnamed (is_among g gs) (mentions p (joined g)) (after g p - before g p)
        (IsListing.counts (joined_is g) p) (j g p);
  }

-- ---- two histories

module _ (h k : History) where
  -- what either lists was named by the events of one of them
  before_named : (s g : List ℕ) (p : Pid) → 0 < listed h s g p
      → named_in s g p (events_of h k) ≡ true
  before_named s g p q = grind (arith, flat_map-append, any_before, listed_named)

  after_named : (s g : List ℕ) (p : Pid) → 0 < listed k s g p
      → named_in s g p (events_of h k) ≡ true
  after_named s g p q = grind (arith, flat_map-append, any_behind, listed_named)

  more : (a b : ℕ) → 0 < a - b → 0 < a
  more a b q = omega (arith, q)

  -- one side of it
  module _ (c d : History)
      (named : (s g : List ℕ) (p : Pid) → 0 < listed c s g p
      → named_in s g p (events_of h k) ≡ true)
      (s : List ℕ) where
    side_is : (g : List ℕ) → IsPidListing (λ p. listed c s g p - listed d s g p)
        (listing pid_cmp (λ p. listed c s g p - listed d s g p) (pids_named s g (events_of h k)))
    side_is g = listing_counts pid_cmp same_pid pids_total exact_pids same_pid_decides _ _
        (λ p q. pid_named s g p (events_of h k) (named s g p (more _ _ q)))

    side_among : (g : List ℕ) (p : Pid) → 0 < listed c s g p - listed d s g p
        → is_among g (ascending text_cmp (groups_named s (events_of h k))) ≡ true
    side_among g p q =
        ascending_stands text_cmp same texts_total exact_bytes same_decides g
        (groups_named s (events_of h k))
        ∙ group_named s g p (events_of h k) (named s g p (more _ _ q))

  scope_difference : (s : List ℕ) → IsDifference (listed h s) (listed k s) (scope_change h k s)
  scope_difference s =
      difference (listed h s) (listed k s) _ _ (side_is h k before_named s)
      (side_is k h after_named s) (ascending text_cmp (groups_named s (events_of h k)))
      (ascending_rises text_cmp same texts_total exact_bytes same_decides
      (groups_named s (events_of h k))) (side_among h k before_named s)
      (side_among k h after_named s)

-- ---- scopes

-- a scope that runs was started
pub was_started : (s : List ℕ) (es : List Event) → unwrap_or (first_of (starts s) es) false ≡ true
    → is_among s (flat_map scopes_started es) ≡ true
was_started s [] q = lie (sym q)
was_started s (e ∷ es) q = grind (arith, was_started s es)

-- a scope that doesn't run lists nobody
pub stopped_lists : (h : History) (s g : List ℕ) (p : Pid) → is_running h s ≡ false
    → listed h s g p ≡ 0
stopped_lists h s g p q = grind arith

-- where each row of a scope is listed as often as before, there is no difference in it
pub no_difference : (h k : History) (s : List ℕ)
    → ((g : List ℕ) (p : Pid) → listed h s g p ≡ listed k s g p)
    → IsDifference (listed h s) (listed k s) []
no_difference h k s m = grind (arith, m, proper)

module _ (F : List ℕ → List GroupChange) where
  abbrev all_changes : List (List ℕ) → List Change
  all_changes ss = flat_map (λ s. if_some s (F s)) ss

  above_all : (s : List ℕ) (ss : List (List ℕ)) → AllByRecursion (λ t. text_cmp s t ≡ Less) ss
      → AllByRecursion (λ t. text_cmp s t ≡ Less) (map (λ c. c.scope) (all_changes ss))
  above_all s [] a = tt
  above_all s (t ∷ ss) a = grind (arith, above_all s ss a.1)

  rise_all : (ss : List (List ℕ)) → Rises text_cmp ss
      → Rises text_cmp (map (λ c. c.scope) (all_changes ss))
  rise_all [] a = tt
  rise_all (t ∷ ss) a = grind (arith, above_all t ss a.0, rise_all ss a.1)

  some_all : (ss : List (List ℕ)) → AllByRecursion (λ c. is_empty c.groups ≡ false) (all_changes ss)
  some_all [] = tt
  some_all (t ∷ ss) = grind (arith, some_all ss)

  groups_behind : (s t : List ℕ) (x : List GroupChange) (cs : List Change)
      → groups_in s (if_some t x ++ cs) ≡ cond (same t s) x [] ++ groups_in s cs
  groups_behind s t x cs = grind arith

  none_above : (s t : List ℕ) (ss : List (List ℕ)) → same t s ≡ true
      → AllByRecursion (λ u. text_cmp t u ≡ Less) ss → groups_in s (all_changes ss) ≡ []
  none_above s t [] e a = refl
  none_above s t (u ∷ ss) e a =
      grind (
        arith,
        none_above s t ss e a.1,
        groups_behind s u (F u) (all_changes ss),
        same_decides,
        apart t u a.0,
      )

  groups_one : (s : List ℕ) (ss : List (List ℕ)) → Rises text_cmp ss
      → groups_in s (all_changes ss) ≡ cond (is_among s ss) (F s) []
  groups_one s [] r = refl
  groups_one s (t ∷ ss) r =
      grind (
        arith,
        groups_one s ss r.1,
        groups_behind s t (F t) (all_changes ss),
        none_above s t ss,
        append-nil,
        same_decides t s,
      )

-- the computed change is the difference
pub change_is : (h k : History) → IsChange h k (change h k)
change_is h k = record {
  scopes = rise_all (scope_change h k) scopes up;
  some = some_all (scope_change h k) scopes;
  groups = λ s. subst (λ cs. IsDifference (listed h s) (listed k s) cs)
      (sym (groups_one (scope_change h k) s scopes up)) (by s (is_among s scopes) refl);
}
  where
    scopes : List (List ℕ)
    scopes = ascending text_cmp (flat_map scopes_started (events_of h k))

    up : Rises text_cmp (ascending text_cmp (flat_map scopes_started (events_of h k)))
    up = ascending_rises text_cmp same texts_total exact_bytes same_decides
        (flat_map scopes_started (events_of h k))

    by : (s : List ℕ) (b : Bool)
        → is_among s (ascending text_cmp (flat_map scopes_started (events_of h k))) ≡ b
        → IsDifference (listed h s) (listed k s) (cond b (scope_change h k s) [])
    by s true e = scope_difference h k s
    by s false e = (let was = absent h.entries (or_parts' e).0 in
        let is = absent k.entries (or_parts' e).1 in
        no_difference h k s (λ g p. stopped_lists h s g p was ∙ sym (stopped_lists k s g p is)))
      where
        or_parts' : is_among s scopes ≡ false
            → (is_among s (flat_map scopes_started (events h.entries)) ≡ false)
            × (is_among s (flat_map scopes_started (events k.entries)) ≡ false)
        or_parts' e = grind (
          arith,
          or_parts,
          ascending_stands,
          texts_total,
          exact_bytes,
          same_decides,
          flat_map-append,
          list_any-append,
        )

        absent : (es : List Entry) → is_among s (flat_map scopes_started (events es)) ≡ false
            → unwrap_or (first_of (starts s) (events es)) false ≡ false
        absent es out = grind (arith, was_started s (events es))

-- where each row is listed as often as before, nothing changed
pub no_change : (h k : History) → ((s g : List ℕ) (p : Pid) → listed h s g p ≡ listed k s g p)
    → IsChange h k []
no_change h k e = record { scopes = tt; some = tt; groups = λ s. no_difference h k s (e s) }

-- a change hangs on what is listed alone
pub change_as : (h j k : History) → ((s g : List ℕ) (p : Pid) → listed j s g p ≡ listed k s g p)
    → (cs : List Change) → IsChange h j cs → IsChange h k cs
change_as h j k same_rows cs c = grind (arith, same_rows)

-- the policy's entry is the next one
pub next_is : (h : History) (seat : ℕ) (e : Event) → is_full h ≡ false
    → IsNext h (entry_of h seat e)
next_is h seat e q = record {
  room =
      ltb-true _ _
      (not-false _ q);
  number = refl;
  verdict = refl;
  change =
      change_as h (with_entry h bare) (with_entry h (entry_of h seat e))
      (λ s g p. sym (change_unread h bare (change h (with_entry h bare)) s g p))
      (change h (with_entry h bare)) (change_is h (with_entry h bare));
}
  where
    bare : Entry
    bare = bare_entry h seat e (verdict h seat e)
