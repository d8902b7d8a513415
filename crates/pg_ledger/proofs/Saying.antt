-- What one entry more makes of what is told.
use Rattle.pg_ledger.specs
use Rattle.std.proofs.Common.{ap, append_assoc, arith, Bool, false, get_or, length, List, refl}
use Rattle.std.proofs.Common.{subst}
use Rattle.std.proofs.Common.{sym, take, true, ℕ, [], ◌++◌, ◌+◌, ◌<◌, ◌^◌, ◌∙◌, ◌∷◌, ◌≡◌}
use Rattle.std.specs.Prelude.{◌||◌, not}
use Rattle.std.proofs.lemmas.Bool.{false≢true}
use Rattle.std.specs.List.{filter, flat_map}
use Rattle.std.proofs.lemmas.List.{take_more}
use Rattle.std.specs.Option.{unwrap_or}
use Rattle.dist_types.specs.Order.{text_cmp}
use Rattle.dist_types.specs.Listing.{ascending, how_many, is_among, placed, Rises, same}
use Rattle.policy_audit.specs.declared.event.Event.{Event}
use Rattle.policy_audit.specs.declared.event.Event.TheVariants as event
use Rattle.policy_audit.specs.declared.entry.Entry.{Entry}
use Rattle.policy_audit.specs.Admission.{allow_list, names_allowed}
use Rattle.policy_audit.specs.History.{entered, events, first_of, History, is_accepted}
use Rattle.policy_audit.specs.History.{is_restart, just}
use Rattle.policy_audit.specs.Own.{running_scopes, scopes_started, starts}
use Rattle.policy_audit.proofs.ScopesNow.{one_rising, rising, rising_is, rising_stands}
use Rattle.policy_audit.proofs.ScopesNow.{running_rises}
use Rattle.policy_audit.proofs.ScopesNow.{running_started, running_stopped}
use specs.Telling.{is_refused, NotesEntry, NotesEvent, NotesNames, Told, told_of}

-- ---- names in order

among_moved : (s n : List ℕ) (xs ys : List (List ℕ))
    → is_among s (xs ++ n ∷ ys) ≡ (same n s || is_among s (xs ++ ys))
among_moved s n [] ys = refl
among_moved s n (x ∷ xs) ys = grind (arith, among_moved s n xs ys)

-- where a name stands among others makes nothing of their order
pub moved : (n : List ℕ) (xs ys : List (List ℕ))
    → ascending text_cmp (xs ++ n ∷ ys) ≡ placed text_cmp n (ascending text_cmp (xs ++ ys))
moved n xs ys =
    one_rising (ascending text_cmp (xs ++ n ∷ ys)) (ascending text_cmp (n ∷ (xs ++ ys)))
    (rising (xs ++ n ∷ ys)) (rising (n ∷ (xs ++ ys))) (λ s.
    rising_stands s (xs ++ n ∷ ys) ∙ among_moved s n xs ys
    ∙ sym (rising_stands s (n ∷ (xs ++ ys))))

-- one name more is put in its place
pub placed_more : (ns : List (List ℕ)) (i : ℕ) (n : List ℕ) (before now next : List (List ℕ))
    → i < length ns → n ≡ get_or ns i n → now ≡ ascending text_cmp (take i ns ++ before)
    → (Rises text_cmp now → next ≡ placed text_cmp n now)
    → next ≡ ascending text_cmp (take (i + 1) ns ++ before)
placed_more ns i n before now next lt at is puts =
    puts (subst (Rises text_cmp) (sym is) (rising (take i ns ++ before)))
    ∙ ap (placed text_cmp n) is
    ∙ sym (moved n (take i ns) before)
    ∙ ap (ascending text_cmp) (sym (append_assoc (take i ns) (n ∷ []) before)
    ∙ ap (λ xs. xs ++ before) (sym (take_more ns i n lt
    ∙ ap (λ m. take i ns ++ m ∷ []) (sym at))))

names_more : (ns xs : List (List ℕ))
    → ascending text_cmp (ns ++ ascending text_cmp xs) ≡ ascending text_cmp (ns ++ xs)
names_more [] xs = rising_is (ascending text_cmp xs) (rising xs)
names_more (n ∷ ns) xs = ap (placed text_cmp n) (names_more ns xs)

-- ---- what events say

-- the scopes that run after these, the newest first
abbrev scopes_by : List Event → List (List ℕ)
scopes_by es = filter (λ s. unwrap_or (first_of (starts s) es) false)
    (ascending text_cmp (flat_map scopes_started es))

-- the names that they allow
abbrev names_by : List Event → List (List ℕ)
names_by es = ascending text_cmp (flat_map names_allowed es)

-- the event neither starts nor stops a scope, nor allows names, nor restarts
abbrev pub is_silent : Event → Bool
is_silent event.Restart = false
is_silent (event.Allow names) = false
is_silent (event.StartScope s) = false
is_silent (event.StopScope s) = false
is_silent e = true

-- it leaves all that is told as it is
pub silent : (e : Event) (es : List Event) → is_silent e ≡ true
    → (scopes_by (e ∷ es) ≡ scopes_by es) × (names_by (e ∷ es) ≡ names_by es)
    × (is_restart e ≡ false)
silent event.Restart es refuses = absurd (false≢true refuses)
silent (event.Allow ns) es refuses = absurd (false≢true refuses)
silent (event.StartScope s) es refuses = absurd (false≢true refuses)
silent (event.StopScope s) es refuses = absurd (false≢true refuses)
silent (event.SetCookie c) es accepts = (refl, refl, refl)
silent (event.SetCookieFor n c) es accepts = (refl, refl, refl)
silent event.Spawn es accepts = (refl, refl, refl)
silent (event.Exit p) es accepts = (refl, refl, refl)
silent (event.Join s g ps) es accepts = (refl, refl, refl)
silent (event.Leave s g ps) es accepts = (refl, refl, refl)
silent (event.Members s g) es accepts = (refl, refl, refl)
silent (event.LocalMembers s g) es accepts = (refl, refl, refl)
silent (event.Groups s) es accepts = (refl, refl, refl)
silent (event.LocalGroups s) es accepts = (refl, refl, refl)
silent (event.Monitor s g) es accepts = (refl, refl, refl)
silent (event.MonitorScope s) es accepts = (refl, refl, refl)
silent (event.Demonitor k) es accepts = (refl, refl, refl)
silent (event.Updates k) es accepts = (refl, refl, refl)
silent (event.Dial n c) es accepts = (refl, refl, refl)
silent (event.Opened c) es accepts = (refl, refl, refl)
silent (event.Lost l) es accepts = (refl, refl, refl)
silent (event.Take l) es accepts = (refl, refl, refl)
silent (event.Disconnect n) es accepts = (refl, refl, refl)
silent (event.Frame l b) es accepts = (refl, refl, refl)

-- ---- and entries

pub equal_told : (t u : Told) → t.scopes ≡ u.scopes → t.allowed ≡ u.allowed → t.refused ≡ u.refused
    → t.entries ≡ u.entries → t ≡ u
equal_told t u s a r n = λ i. record { scopes = s i; allowed = a i; refused = r i; entries = n i }

module _ (h : History) (e : Entry) (accepts : is_accepted e.verdict ≡ true) where
  events_more : (ev : Event) → e.event ≡ ev → is_restart ev ≡ false
      → events (e ∷ h.entries) ≡ ev ∷ events h.entries
  events_more ev is refuses = grind (arith, accepts, is, refuses)

  events_none : e.event ≡ event.Restart → events (e ∷ h.entries) ≡ []
  events_none is = grind (arith, accepts, is)

  none_refused : how_many is_refused (e ∷ h.entries) ≡ how_many is_refused h.entries
  none_refused = grind (arith, accepts)

  -- what is told once the event is noted
  abbrev noted : Told
  noted = record (told_of (just h e)) { entries = entered h.entries }

pub silent_noted : (ev : Event) (t : Told) → is_silent ev ≡ true → NotesEvent ev t t
silent_noted ev t s h e is accepts told =
    let same = silent ev (events h.entries) s in
    let more = events_more h e accepts ev is same.2 in
    told ∙ equal_told (told_of h) (noted h e accepts) (sym (ap scopes_by more ∙ same.0))
    (sym (ap names_by more ∙ same.1))
    (sym (none_refused h e accepts)) refl

pub restart_noted : (t t' : Told) → t' ≡ record t { scopes = []; allowed = [] }
    → NotesEvent event.Restart t t'
restart_noted t t' cleared h e is accepts told =
    let none = events_none h e accepts is in
    cleared ∙ ap (λ (x : Told). record x { scopes = []; allowed = [] }) told
    ∙ equal_told (record (told_of h) { scopes = []; allowed = [] }) (noted h e accepts)
    (sym (ap scopes_by none)) (sym (ap names_by none)) (sym (none_refused h e accepts)) refl

pub allow_noted : (ns : List (List ℕ)) (t t' : Told) → NotesNames ns t t'
    → NotesEvent (event.Allow ns) t t'
allow_noted ns t t' notes h e is accepts told =
    let more = events_more h e accepts (event.Allow ns) is refl in
    notes (subst (λ (x : Told). Rises text_cmp x.allowed) (sym told) (rising (allow_list h)))
    ∙ ap (λ (x : Told). record x { allowed = ascending text_cmp (ns ++ x.allowed) }) told
    ∙ equal_told
    (record (told_of h) { allowed = ascending text_cmp (ns ++ ascending text_cmp (allow_list h)) })
    (noted h e accepts) (sym (ap scopes_by more))
    (names_more ns (allow_list h) ∙ sym (ap names_by more)) (sym (none_refused h e accepts)) refl

pub start_noted : (s : List ℕ) (t u t' : Told) → t ≡ u
    → (Rises text_cmp u.scopes → t' ≡ record u { scopes = placed text_cmp s u.scopes })
    → NotesEvent (event.StartScope s) t t'
start_noted s t u t' seen puts h e is accepts at =
    let told = sym seen ∙ at in
    let more = events_more h e accepts (event.StartScope s) is refl in
    puts (subst (λ (x : Told). Rises text_cmp x.scopes) (sym told) (running_rises h))
    ∙ ap (λ (x : Told). record x { scopes = placed text_cmp s x.scopes }) told
    ∙ equal_told (record (told_of h) { scopes = placed text_cmp s (running_scopes h) })
    (noted h e accepts) (sym (running_started h e accepts s is)) (sym (ap names_by more))
    (sym (none_refused h e accepts)) refl

pub stop_noted : (s : List ℕ) (t u t' : Told) → t ≡ u
    → t' ≡ record u { scopes = filter (λ r. not (same r s)) u.scopes }
    → NotesEvent (event.StopScope s) t t'
stop_noted s t u t' seen left h e is accepts at =
    let told = sym seen ∙ at in
    let more = events_more h e accepts (event.StopScope s) is refl in
    left ∙ ap (λ (x : Told). record x { scopes = filter (λ r. not (same r s)) x.scopes }) told
    ∙ equal_told (record (told_of h) { scopes = filter (λ r. not (same r s)) (running_scopes h) })
    (noted h e accepts) (sym (running_stopped h e accepts s is)) (sym (ap names_by more))
    (sym (none_refused h e accepts)) refl

-- the entry is counted once its event is noted
pub accepted_noted : (e : Entry) (t mid t' : Told) → is_accepted e.verdict ≡ true
    → NotesEvent e.event t mid
    → (mid.entries < 2 ^ 32 → t' ≡ record mid { entries = mid.entries + 1 }) → NotesEntry e t t'
accepted_noted e t mid t' accepts notes counts h told real few bound =
    let is = notes h e refl accepts told in
    let many : t.entries ≡ mid.entries =
    ap (λ (x : Told). x.entries) told ∙ sym (ap (λ (x : Told). x.entries) is) in
    counts (subst (λ n. n < 2 ^ 32) many bound)
    ∙ ap (λ (x : Told). record x { entries = x.entries + 1 }) is
    ∙ equal_told (record (told_of (just h e)) { entries = entered h.entries + 1 })
    (told_of (just h e)) refl refl refl (grind (arith, real))

pub refused_noted : (e : Entry) (t mid t' : Told) → is_accepted e.verdict ≡ false
    → (t.refused < 2 ^ 32 → mid ≡ record t { refused = t.refused + 1 })
    → (mid.entries < 2 ^ 32 → t' ≡ record mid { entries = mid.entries + 1 }) → NotesEntry e t t'
refused_noted e t mid t' refuses refused counts h told real few bound =
    let same_events : events (e ∷ h.entries) ≡ events h.entries = grind (arith, refuses) in
    let is = refused (omega (arith, few, bound))
    ∙ ap (λ (x : Told). record x { refused = x.refused + 1 }) told in
    let many : t.entries ≡ mid.entries =
    ap (λ (x : Told). x.entries) told ∙ sym (ap (λ (x : Told). x.entries) is) in
    counts (subst (λ n. n < 2 ^ 32) many bound)
    ∙ ap (λ (x : Told). record x { entries = x.entries + 1 }) is
    ∙ equal_told (record (told_of h) {
      refused = how_many is_refused h.entries + 1;
      entries = entered h.entries + 1;
    })
    (told_of (just h e)) (sym (ap scopes_by same_events)) (sym (ap names_by same_events))
    (grind (arith, refuses)) (grind (arith, real))
