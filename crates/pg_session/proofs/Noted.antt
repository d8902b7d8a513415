-- What is noted at once for many monitors, step by step.
use Rattle.pg_session.specs
use Rattle.std.proofs.Common.{ap, Bool, cond, Err, false, IfOk, inl, inr, is_some, List, map, max}
use Rattle.std.proofs.Common.{None, Ok, Option, refl, Result, Some, sym, true, ℕ, [], ◌&&◌, ◌∙◌}
use Rattle.std.proofs.Common.{◌∷◌, ◌≡◌, ◌⊎◌}
use Rattle.std.specs.BTreeMap.{BTreeMap, get, Updates, WritesThrough}
use Rattle.std.specs.List.{All, AllByRecursion, list_any}
use Rattle.std.specs.Option.{option_and_then, option_map}
use Rattle.std.specs.Result.{result_ok}
use Rattle.std.specs.Ordering.{eq_by_cmp, is_eq}
use Rattle.std.proofs.lemmas.List.Elements.{All-weaker, recursion_from_All}
use Rattle.std.proofs.lemmas.Iterator.Adapters.{option_map_id}
use Rattle.std.proofs.lemmas.Bool.Decides.{same_from_decides}
use Rattle.std.proofs.lemmas.Cmp.{tied_itself}
use Rattle.std.proofs.lemmas.Map.Lookups.{exact_bytes}
use Rattle.std.proofs.lemmas.Map.Views.{tells_apart}
use Rattle.dist_types.specs.declared.change.GroupChange.{GroupChange}
use Rattle.dist_types.specs.declared.fault.OutOfMemory.{OutOfMemory}
use Rattle.dist_types.specs.Listing.{same}
use Rattle.dist_types.specs.Order.{text_cmp}
use Rattle.dist_types.proofs.Orders.{same_decides, texts_total}
use Rattle.policy_audit.specs.declared.change.Change.{Change}
use Rattle.policy_audit.specs.declared.entry.Entry.{Entry}
use Rattle.policy_audit.specs.Monitors.{is_watched, Target}
use specs.declared.watch.Watch.{Watch}
use specs.declared.watched.ScopeNews.{ScopeNews}
use specs.declared.watched.Watched.{Watched}
use specs.Watched.{all_of, Awaits, change_in, Knows, last_change, last_stop, latest, Notes, raised}
use specs.Watched.{Raises, told_by}
use specs.Watching.{is_touched, noted, stopped_by, stops, target}
use Rattle.pg_session.proofs.Later.{any_kept, last_behind}
use Rattle.pg_session.proofs.Noting.{noted_none}

-- ---- a value that was written

one_text : (a b : List ℕ) → eq_by_cmp text_cmp a b ≡ same a b
one_text a b = same_from_decides _ _ (
  tells_apart exact_bytes a b,
  λ h. ap (λ x. is_eq (text_cmp a x)) (sym h) ∙ ap is_eq (tied_itself texts_total a),
) (same_decides a b)

module _ {X : Type 0} (m n : BTreeMap (List ℕ) X) (key a : List ℕ) (v w : X)
    (writes : WritesThrough text_cmp (text_cmp key) m w n)
    (there : Some v ≡ get text_cmp m key) where
  up : get text_cmp n a ≡ cond (eq_by_cmp text_cmp key a) (Some w) (get text_cmp m a)
  up = (writes.3 (ap is_some (sym there))).0 a

  -- the new value is at the key, and the others are where they were
  written : ((same key a ≡ true) × (get text_cmp n a ≡ Some w) × (get text_cmp m a ≡ Some v))
      ⊎ ((same key a ≡ false) × (get text_cmp n a ≡ get text_cmp m a))
  written = by (same key a) refl
    where
      here : same key a ≡ true → a ≡ key
      here hit = sym ((same_decides key a).0 hit)

      by : (b : Bool) → same key a ≡ b → ((same key a ≡ true) × (get text_cmp n a ≡ Some w)
          × (get text_cmp m a ≡ Some v))
          ⊎ ((same key a ≡ false) × (get text_cmp n a ≡ get text_cmp m a))
      by true hit = inl (
        hit,
        up ∙ rw (one_text key a, hit) refl,
        ap (λ k. get text_cmp m k) (here hit) ∙ sym there,
      )
      by false miss = inr (miss, (up ∙ rw (one_text key a, miss) refl))

  -- what is read of them is the same
  pub reads_same : (read : Option X → Option ℕ) → read (Some w) ≡ read (Some v)
      → read (get text_cmp n a) ≡ read (get text_cmp m a)
  reads_same read is = elim written [
    | inl hit ↦ rw (hit.1, hit.2) is
    | inr miss ↦ rw miss.1 refl
  ]

  -- or it is raised, at the key
  pub reads_raised : (read : Option X → Option ℕ) (test : Bool) (number : ℕ)
      → read (Some w) ≡ option_map (raised test number) (read (Some v))
      → read (get text_cmp n a)
      ≡ option_map (raised (same key a && test) number) (read (get text_cmp m a))
  reads_raised read test number is = elim written [
    | inl hit ↦ rw (hit.0, hit.1, hit.2) is
    | inr miss ↦ rw (miss.0, miss.1) (sym (option_map_id (read (get text_cmp m a))))
  ]

and_true : (b : Bool) → (b && true) ≡ b
and_true true = refl
and_true false = refl

-- a scope that was stopped
module _ (m n : BTreeMap (List ℕ) ScopeNews) (key : List ℕ) (news : ScopeNews) (number stopped : ℕ)
    (is : stopped ≡ max news.stopped number)
    (writes : WritesThrough text_cmp (text_cmp key) m (record news { stopped = stopped }) n)
    (there : Some news ≡ get text_cmp m key) where
  pub stop_noted : (e : Entry) → Some key ≡ stopped_by e.event e.verdict → (s : List ℕ)
      → last_stop (record { scopes = n }) s
      ≡ option_map (raised (stops s e) number) (last_stop (record { scopes = m }) s)
  stop_noted e stop s = rw (← stop, ← and_true (same key s))
      (reads_raised m n key s news (record news { stopped = stopped }) writes there
      (option_map (λ (x : ScopeNews). x.stopped)) true number (ap (λ x. Some x) is))

  stays : (g : Option (List ℕ)) → change_in (record news { stopped = stopped }) g ≡ change_in news g
  stays None = refl
  stays (Some g) = refl

  pub stop_changes : (t : Target)
      → last_change (record { scopes = n }) t ≡ last_change (record { scopes = m }) t
  stop_changes t = reads_same m n key t.scope news (record news { stopped = stopped }) writes there
      (option_and_then (λ x. change_in x t.group)) (stays t.group)

-- a group that was changed
pub group_noted : (news : ScopeNews) (groups : BTreeMap (List ℕ) ℕ) (change : GroupChange)
    (number last changed raise : ℕ) → changed ≡ max news.changed number → raise ≡ max last number
    → WritesThrough text_cmp (text_cmp change.group) news.groups raise groups
    → Some last ≡ get text_cmp news.groups change.group
    → Raises (λ g. is_watched g change) number news
    (record news { changed = changed; groups = groups })
group_noted news groups change number last changed raise is more writes there = record {
  stop = refl;
  changes = by;
}
  where
    by : (g : Option (List ℕ)) → change_in (record news { changed = changed; groups = groups }) g
        ≡ option_map (raised (is_watched g change) number) (change_in news g)
    by None = ap (λ x. Some x) is
    by (Some g) = rw (← and_true (same change.group g))
        (reads_raised news.groups groups change.group g last raise writes there (λ o. o) true number
        (ap (λ x. Some x) more))

-- a scope whose groups were changed
module _ (m n : BTreeMap (List ℕ) ScopeNews) (key : List ℕ) (news news' : ScopeNews)
    (test : Option (List ℕ) → Bool) (number : ℕ) (raises : Raises test number news news')
    (writes : WritesThrough text_cmp (text_cmp key) m news' n)
    (there : Some news ≡ get text_cmp m key) where
  pub raised_stops : (s : List ℕ)
      → last_stop (record { scopes = n }) s ≡ last_stop (record { scopes = m }) s
  raised_stops s = reads_same m n key s news news' writes there
      (option_map (λ (x : ScopeNews). x.stopped)) (ap (λ x. Some x) raises.stop)

  pub raised_changes : (t : Target) → last_change (record { scopes = n }) t
      ≡ option_map (raised (same key t.scope && test t.group) number)
      (last_change (record { scopes = m }) t)
  raised_changes t = reads_raised m n key t.scope news news' writes there
      (option_and_then (λ x. change_in x t.group)) (test t.group) number (raises.changes t.group)

-- ---- what is watched

-- a scope that was added
pub scope_added : (m n : BTreeMap (List ℕ) ScopeNews) (key : List ℕ) (news : ScopeNews)
    → Updates text_cmp m n key (Some news) → news.stopped ≡ 0 → news.changed ≡ 0 → (s : List ℕ)
    → Knows (record { scopes = m }) [] (all_of s) → Knows (record { scopes = n }) [] (all_of s)
scope_added m n key news updates none new s knows = by (eq_by_cmp text_cmp key s) (updates.0 s)
  where
    by : (b : Bool) → get text_cmp n s ≡ cond b (Some news) (get text_cmp m s)
        → Knows (record { scopes = n }) [] (all_of s)
    by true is = record {
      stop = rw is (ap (λ x. Some x) none);
      change = rw is (ap (λ x. Some x) new);
    }
    by false is = record { stop = rw is knows.stop; change = rw is knows.change }

-- a group that was added
module _ (m n : BTreeMap (List ℕ) ScopeNews) (key group : List ℕ) (news : ScopeNews)
    (groups : BTreeMap (List ℕ) ℕ) (updates : Updates text_cmp news.groups groups group (Some 0))
    (writes : WritesThrough text_cmp (text_cmp key) m (record news { groups = groups }) n)
    (there : Some news ≡ get text_cmp m key) where
  kept : (g : Option (List ℕ)) → change_in news g ≡ Some 0
      → change_in (record news { groups = groups }) g ≡ Some 0
  kept None is = is
  kept (Some g) is = by (eq_by_cmp text_cmp group g) (updates.0 g)
    where
      by : (b : Bool) → get text_cmp groups g ≡ cond b (Some 0) (get text_cmp news.groups g)
          → get text_cmp groups g ≡ Some 0
      by true e = e
      by false e = e ∙ is

  stops_kept : (s : List ℕ)
      → last_stop (record { scopes = n }) s ≡ last_stop (record { scopes = m }) s
  stops_kept s = reads_same m n key s news (record news { groups = groups }) writes there
      (option_map (λ (x : ScopeNews). x.stopped)) refl

  pub group_keeps : (t : Target) → Knows (record { scopes = m }) [] t
      → Knows (record { scopes = n }) [] t
  group_keeps t knows = record {
    stop = stops_kept t.scope ∙ knows.stop;
    change = elim (written m n key t.scope news (record news { groups = groups }) writes there) [
      | inl hit ↦ rw hit.1 (kept t.group (rw hit.2 at knows.change))
      | inr miss ↦ rw miss.1 knows.change
    ];
  }

  pub group_added : Knows (record { scopes = m }) [] (all_of key)
      → Knows (record { scopes = n }) [] (record { scope = key; group = Some group })
  group_added knows = record {
    stop = stops_kept key ∙ knows.stop;
    change = rw ((writes.3 (ap is_some (sym there))).1, updates.1) refl;
  }

-- ---- entries

-- none
pub notes_none : (d : Watched) → Notes [] d d
notes_none d = record {
  stops = λ s. sym (option_map_id (last_stop d s));
  changes = λ t. sym (option_map_id (last_change d t));
}

-- one, first its stop, and then its changes
pub entry_noted : (e : Entry) (a b c : Watched)
    → ((s : List ℕ) → last_stop b s ≡ option_map (raised (stops s e) e.number) (last_stop a s))
    → ((t : Target) → last_change b t ≡ last_change a t)
    → ((s : List ℕ) → last_stop c s ≡ last_stop b s)
    → ((t : Target) → last_change c t ≡ option_map (raised (list_any
    (λ x. same x.scope t.scope && list_any (is_watched t.group) x.groups) e.change) e.number)
    (last_change b t)) → Notes (e ∷ []) a c
entry_noted e a b c stop others stays changes = record {
  stops = λ s. stays s ∙ stop s;
  changes = λ t. changes t
      ∙ ap (λ x. option_map (raised x e.number) (last_change b t))
      (sym (any_kept (is_watched t.group) (λ (x : Change). same x.scope t.scope)
      (λ (x : Change). x.groups) e.change))
      ∙ ap (option_map (raised (is_touched t e) e.number)) (others t);
}

mapped : (f g : ℕ → ℕ) (o : Option ℕ) → option_map g (option_map f o) ≡ option_map (λ x. g (f x)) o
mapped f g None = refl
mapped f g (Some x) = refl

-- the first of them, and then the others
pub notes_first : (e : Entry) (es : List Entry) (a b c : Watched) → Notes (e ∷ []) a b
    → Notes es b c → Notes (e ∷ es) a c
notes_first e es a b c first then = record {
  stops = λ s. then.stops s ∙ ap (option_map (latest (stops s) es)) (first.stops s)
      ∙ mapped (latest (stops s) (e ∷ [])) (latest (stops s) es) (last_stop a s);
  changes = λ t. then.changes t ∙ ap (option_map (latest (is_touched t) es)) (first.changes t)
      ∙ mapped (latest (is_touched t) (e ∷ [])) (latest (is_touched t) es) (last_change a t);
}

-- ---- what monitors are told

known_after : (es : List Entry) (d d' : Watched) (t : Target) → Notes es d d' → Knows d [] t
    → Knows d' es t
known_after es d d' t notes knows = record {
  stop = notes.stops t.scope ∙ ap (option_map (latest (stops t.scope) es)) knows.stop;
  change = notes.changes t ∙ ap (option_map (latest (is_touched t) es)) knows.change;
}

pub all_known_after : (es : List Entry) (d d' : Watched) (ws : List Watch) → Notes es d d'
    → All (λ w. Knows d [] (target w)) ws → All (λ w. Knows d' es (target w)) ws
all_known_after es d d' ws notes all =
    All-weaker (λ w. Knows d [] (target w)) (λ w. Knows d' es (target w))
    (λ w. known_after es d d' (target w) notes) ws all

told_known : (es : List Entry) (d : Watched) (w : Watch) → Knows d es (target w)
    → told_by d w ≡ noted es w
told_known es d w knows = rw (
  knows.stop,
  knows.change,
  last_behind (stops w.scope) w.number es,
  last_behind (is_touched (target w)) w.number es,
) refl

all_told : (es : List Entry) (d : Watched) (ws : List Watch)
    → AllByRecursion (λ w. Knows d es (target w)) ws → map (told_by d) ws ≡ map (noted es) ws
all_told es d [] all = refl
all_told es d (w ∷ ws) all = rw (told_known es d w all.0, all_told es d ws all.1) refl

-- what is watched at first, or nothing for want of memory: no entry is noted yet
pub awaits_of : (r : Result Watched OutOfMemory) (ws : List Watch)
    → IfOk r (λ d. All (λ w. Knows d [] (target w)) ws) → Awaits [] ws (result_ok r) ws
awaits_of (Ok d) ws new = (refl, new)
awaits_of (Err e) ws new = sym (noted_none ws)

-- monitors that are told what is known of them have noted it
pub told_all : (es : List Entry) (before now : List Watch) (d : Watched)
    → Awaits es before (Some d) now → map (told_by d) now ≡ map (noted es) before
told_all es before now d awaits = ap (map (told_by d)) awaits.0
    ∙ all_told es d before (recursion_from_All (λ w. Knows d es (target w)) before awaits.1)
