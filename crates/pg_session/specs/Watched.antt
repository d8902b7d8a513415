-- What is noted at once for many monitors of a connection.
use Rattle.std.specs.Prelude.{◌≡◌, ℕ, Bool, cond, max, ◌||◌, nat_lt, List, [], ◌∷◌, map, Option}
use Rattle.std.specs.Prelude.{Some, None}
use Rattle.std.specs.List.{All}
use Rattle.std.specs.Option.{option_and_then, option_map, unwrap_or}
use Rattle.std.specs.BTreeMap.{get}
use Rattle.dist_types.specs.Order.{text_cmp}
use Rattle.policy_audit.specs.declared.entry.Entry.{Entry}
use Rattle.policy_audit.specs.Monitors.{Target}
use Rattle.pg_session.specs.declared.watch.Watch.{Watch}
use Rattle.pg_session.specs.declared.watched.ScopeNews.{ScopeNews}
use Rattle.pg_session.specs.declared.watched.Watched.{Watched}
use Rattle.pg_session.specs.Watching.{is_touched, noted, stops, target}

-- a number, raised to this one where that passed a test
abbrev pub raised : Bool → ℕ → ℕ → ℕ
raised passes n last = cond passes (max last n) last

-- a number, raised to that of each of these entries which passes the test
abbrev pub latest : (Entry → Bool) → List Entry → ℕ → ℕ
latest p [] last = last
latest p (e ∷ es) last = latest p es (raised (p e) e.number last)

-- all groups of a scope
abbrev pub all_of : List ℕ → Target
all_of s = record { scope = s; group = None }

-- ---- what is noted

-- of a scope, the last entry that changed rows of a group, or of any
abbrev pub change_in : ScopeNews → Option (List ℕ) → Option ℕ
change_in news None = Some news.changed
change_in news (Some g) = get text_cmp news.groups g

-- the last entry that stopped the scope; none where that isn't watched
abbrev pub last_stop : Watched → List ℕ → Option ℕ
last_stop d s = option_map (λ news. news.stopped) (get text_cmp d.scopes s)

-- the last entry that changed rows of these; none where they aren't watched
abbrev pub last_change : Watched → Target → Option ℕ
last_change d t = option_and_then (λ news. change_in news t.group) (get text_cmp d.scopes t.scope)

-- ---- with entries

-- of the groups, those that pass a test at this number are noted
pub record Raises (test : Option (List ℕ) → Bool) (n : ℕ) (news news' : ScopeNews) : Type 0 where
  pub stop : news'.stopped ≡ news.stopped
  pub changes : (g : Option (List ℕ))
      → change_in news' g ≡ option_map (raised (test g) n) (change_in news g)

-- these entries are noted
pub record Notes (es : List Entry) (d d' : Watched) : Type 0 where
  pub stops : (s : List ℕ) → last_stop d' s ≡ option_map (latest (stops s) es) (last_stop d s)
  pub changes : (t : Target)
      → last_change d' t ≡ option_map (latest (is_touched t) es) (last_change d t)

-- this is watched, and all that these entries tell of it is noted
pub record Knows (d : Watched) (es : List Entry) (t : Target) : Type 0 where
  pub stop : last_stop d t.scope ≡ Some (latest (stops t.scope) es 0)
  pub change : last_change d t ≡ Some (latest (is_touched t) es 0)

-- the monitor, told what is noted
abbrev pub told_by : Watched → Watch → Watch
told_by d w = record w {
  is_over = w.is_over || nat_lt w.number (unwrap_or (last_stop d w.scope) 0);
  is_due = w.is_due || nat_lt w.number (unwrap_or (last_change d (target w)) 0);
}

-- the monitors that were so have noted these entries, or are as they were, and what the entries
-- tell them is known
abbrev pub Awaits : List Entry → List Watch → Option Watched → List Watch → Type 0
Awaits es before None now = now ≡ map (noted es) before
Awaits es before (Some d) now = (now ≡ before) × All (λ w. Knows d es (target w)) before
