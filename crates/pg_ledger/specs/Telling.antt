-- What operators are shown of a node, in the words of the written policy.
use Rattle.std.specs.Prelude.{◌≡◌, ℕ, ◌<◌, ◌≤◌, ◌^◌, true, not, List, [], ◌++◌, Bool}
use Rattle.dist_types.specs.Order.{text_cmp}
use Rattle.dist_types.specs.Listing.{how_many, ascending, Rises}
use Rattle.policy_audit.specs.declared.event.Event.{Event}
use Rattle.policy_audit.specs.declared.entry.Entry.{Entry}
use Rattle.policy_audit.specs.History.{History, entered, is_accepted, is_entered, just}
use Rattle.policy_audit.specs.Admission.{allow_list}
use Rattle.policy_audit.specs.Own.{running_scopes}

-- the scopes that run, the names that were allowed, how many entries were refused, and of how many
-- entries this is
pub record Told : Type 0 where
  pub scopes : List (List ℕ)
  pub allowed : List (List ℕ)
  pub refused : ℕ
  pub entries : ℕ

-- told of nothing
abbrev pub nothing : Told
nothing = record { scopes = []; allowed = []; refused = 0; entries = 0 }

-- the entry is refused
abbrev pub is_refused : Entry → Bool
is_refused e = not (is_accepted e.verdict)

-- what is told of a history: its running scopes and each name of its allow list once, ascending
abbrev pub told_of : History → Told
told_of h = record {
  scopes = running_scopes h;
  allowed = ascending text_cmp (allow_list h);
  refused = how_many is_refused h.entries;
  entries = entered h.entries;
}

-- one entry more of an audit is noted, whatever came before it
abbrev pub NotesEntry : Entry → Told → Told → Type 0
NotesEntry e t t' = (h : History) → t ≡ told_of h → is_entered e ≡ true → t.refused ≤ t.entries
    → t.entries < 2 ^ 32 → t' ≡ told_of (just h e)

-- the event of an accepted entry is noted, but the entry isn't counted yet
abbrev pub NotesEvent : Event → Told → Told → Type 0
NotesEvent event t t' = (h : History) (e : Entry) → e.event ≡ event → is_accepted e.verdict ≡ true
    → t ≡ told_of h → t' ≡ record (told_of (just h e)) { entries = entered h.entries }

-- these names are noted
abbrev pub NotesNames : List (List ℕ) → Told → Told → Type 0
NotesNames names t t' = Rises text_cmp t.allowed
    → t' ≡ record t { allowed = ascending text_cmp (names ++ t.allowed) }
