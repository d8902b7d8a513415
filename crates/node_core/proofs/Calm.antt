-- Entries that leave alone all that a node keeps of links and scopes.
use Rattle.node_core.proofs
use proofs.Words.{Accepted, admission_words, AdmissionFollows, AdmissionRules, answer, append-nil}
use proofs.Words.{arith, audit_of, Bool, checks, ends, entry_rows, eqb-true, Event, facts, false}
use proofs.Words.{filter, first_broken, first_of, Follows, heard, hears, History, is_empty, is_full}
use proofs.Words.{is_open, is_quiet, is_whole, IsAlone, IsChange, IsStep, just, lie, link_words}
use proofs.Words.{links, LinksFollow, List, next_number, no_change, None, not, owed, Parts}
use proofs.Words.{process_words, ProcessesFollow, refl, refusal_owes, Refused, refuses_calmly}
use proofs.Words.{Reply, reverse, Rule, running_scopes, scope_words, ScopesFollow, Spawned, subst}
use proofs.Words.{sym, talk, tells, told, true, unwrap_or, waiting, ℕ, [], ◌&&◌, ◌++◌, ◌||◌, ◌∷◌}
use proofs.Words.{◌≡◌}
use Rattle.group_monitors.specs.Follows.{FollowsPolicy}
use Rattle.group_monitors.specs.declared.monitor.Monitor.{Monitor}
use proofs.Entered.{accepted_next, answered_by, audit_more, made, sound_now, step_follows}

-- the words of all links, link by link
pub same_links : (h k : History) → links k.entries ≡ links h.entries
    → ((l : ℕ) → facts k l ≡ facts h l) → ((l : ℕ) → waiting k l ≡ waiting h l)
    → link_words k ≡ link_words h
same_links h k numbers same frames = λ i. record {
  numbers = reverse (filter (λ l. (same l i).open_now || not (is_empty (frames l i))) (numbers i));
  facts = λ l. same l i;
  waiting = λ l. frames l i;
}

-- ---- refusals

empty_is : {A : Type 0} (xs : List A) → is_empty xs ≡ true → xs ≡ []
empty_is [] q = refl
empty_is (x ∷ xs) q = lie (sym q)

opens_still : (h : History) (l : ℕ) (r : Rule) (ev : Event) → refuses_calmly h ev r ≡ true
    → (not (ends l h.entries (Refused r) ev) && is_open l h.entries) ≡ is_open l h.entries
opens_still h l r (Event.Frame j body) calm = grind (arith, eqb-true j l)
opens_still h l r ev calm = refl

waits_still : (h : History) (l : ℕ) (r : Rule) (ev : Event) → refuses_calmly h ev r ≡ true
    → (waiting h l ++ owed h l (next_number h) ev (Refused r)) ≡ waiting h l
waits_still h l r (Event.Frame j body) calm =
    grind (arith, append-nil (waiting h l), empty_is (refusal_owes r))
waits_still h l r ev calm = append-nil (waiting h l)

module _ (h : History) (seat : ℕ) (ev : Event) (r : Rule)
    (calm : refuses_calmly h ev r ≡ true) where
  abbrev k : History
  k = just h (made h seat ev (Refused r) [])

  same_scopes : scope_words k ≡ scope_words h
  same_scopes = λ i. record {
    own = h.opening.name;
    running = running_scopes h;
    listed = λ s g p. entry_rows h (made h seat ev (Refused r) []) refl s g p i;
    heard = λ l s. (opens_still h l r ev calm i && is_whole l h.entries)
        && unwrap_or (first_of (hears s) (talk h.opening l h.entries)) false;
    told = λ l s. (opens_still h l r ev calm i && is_whole l h.entries)
        && unwrap_or (first_of (tells s) (talk h.opening l h.entries)) false;
  }

  pub refused_change : IsChange h k []
  refused_change =
      no_change h k (λ s g p. sym (entry_rows h (made h seat ev (Refused r) []) refl s g p))

  -- what is kept follows the refusal
  pub calm_follows : {parts : Parts} → Follows h parts → IsAlone h (made h seat ev (Refused r) [])
      → Follows k parts
  calm_follows {parts} t next =
      step_follows t next refl t.admission t.processes
      (subst (λ w. ScopesFollow w parts.scopes) (sym same_scopes) t.scopes)
      (subst (λ w. LinksFollow w parts.links)
      (sym (same_links h k refl (λ l. λ i. record (facts h l) {
        open_now =
            opens_still h l r ev calm i;
      }) (λ l. waits_still h l r ev calm))) t.links)

-- ---- events that change no row and no link

-- the history with an accepted entry that changes no row
abbrev pub answered : History → ℕ → Event → Reply → History
answered h seat ev r = just h (made h seat ev (Accepted r) [])

-- an accepted event that changes no row is the next entry
pub quiet_next : (h : History) (seat : ℕ) (r : Reply) (ev : Event) → is_full h ≡ false
    → first_broken (checks h seat ev) ≡ None → answer h seat ev ≡ r → is_quiet ev ≡ true
    → IsAlone h (made h seat ev (Accepted r) [])
quiet_next h seat r ev space holds is quiet =
    accepted_next h seat ev space r [] holds is
    (λ its. no_change h (answered h seat ev r)
    (λ s g p. sym (entry_rows h (made h seat ev (Accepted r) []) quiet s g p)))

-- the event changes no row, and takes no frames
abbrev pub is_still : Event → Bool
is_still (Event.Take l) = false
is_still ev = is_quiet ev

module _ (h : History) (seat : ℕ) (r : Reply) (ev : Event) (still : is_still ev ≡ true) where
  still_links : link_words (answered h seat ev r) ≡ link_words h
  still_links = same_links h (answered h seat ev r) (grind arith) (λ l. grind arith)
      (λ l. grind (arith, append-nil (waiting h l)))

  still_scopes : scope_words (answered h seat ev r) ≡ scope_words h
  still_scopes =
      let runs : running_scopes (answered h seat ev r) ≡ running_scopes h = grind arith in
      let hear : (l : ℕ) (s : List ℕ)
      → heard h.opening l s (answered h seat ev r).entries ≡ heard h.opening l s h.entries =
      λ l s. grind arith in
      let tell : (l : ℕ) (s : List ℕ)
      → told h.opening l s (answered h seat ev r).entries ≡ told h.opening l s h.entries =
      λ l s. grind arith in
      λ i. record {
        own = h.opening.name;
        running = runs i;
        listed = λ s g p. entry_rows h (made h seat ev (Accepted r) []) (grind arith) s g p i;
        heard = λ l s. hear l s i;
        told = λ l s. tell l s i;
      }

-- such an event is the next entry, and what is kept of links and scopes follows
pub entered : {h : History} {parts : Parts} (t : Follows h parts) (seat : ℕ) {r : Reply}
    (ev : Event) → is_still ev ≡ true → is_full h ≡ false → first_broken (checks h seat ev) ≡ None
    → answer h seat ev ≡ r
    → {a : AdmissionRules} {p : Spawned} {ms : List (ℕ × Monitor)}
    → (IsStep h (made h seat ev (Accepted r) [])
    → AdmissionFollows (admission_words (answered h seat ev r)) a
    × ProcessesFollow (process_words (answered h seat ev r)) p
    × FollowsPolicy (just (audit_of h) (made h seat ev (Accepted r) [])) ms)
    → IsAlone h (made h seat ev (Accepted r) [])
    × Follows (answered h seat ev r) (record parts { admission = a; processes = p; monitors = ms })
entered {h} {parts} t seat {r} ev still space holds is {a} {p} {ms} rest =
    let next = quiet_next h seat r ev space holds is (grind arith) in
    let others = rest (answered_by next) in (
      next,
      record {
        sound = sound_now h _ t.sound next;
        admission = others.0;
        processes = others.1;
        scopes = subst (λ w. ScopesFollow w parts.scopes) (sym (still_scopes h seat r ev still))
            t.scopes;
        links = subst (λ w. LinksFollow w parts.links) (sym (still_links h seat r ev still))
            t.links;
        monitors =
            subst (λ k. FollowsPolicy k ms)
            (sym (audit_more h (made h seat ev (Accepted r) []) next)) others.2;
      },
    )
